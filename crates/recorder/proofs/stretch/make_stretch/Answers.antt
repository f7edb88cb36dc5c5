use Rattle.std.proofs.Common.{Some, replicate, subst, arith}
use Rattle.event_core.specs.World.{world_of}
use Rattle.recorder.proofs.Stretches.{still_threads}
use Rattle.recorder.specs.Making.{StepsOn}
use Rattle.recorder.proofs.DrawnStretches.{makes_none, makes_on, stretch_over, steps_made, fewer_left}
use Rattle.recorder.proofs.stretch.make_stretch.Goals as goal

pub loop-left-init : goal.loop-left-init
loop-left-init g c = makes_none g.S.ObjectSpace.meaning g.M.Machine.code c.args.steps c.args.pick c.args.accesses (world_of c.args.world.now) c.args.logs.now

pub run_on-requires : goal.run_on-requires
run_on-requires g c =
    let inv = c.loop-left.invariant in
    still_threads g.S.ObjectSpace.meaning g.M.Machine.code c.args.steps (replicate inv.times c.args.pick) (world_of c.args.world.now) (world_of c.loop-left.world) c.args.logs.now c.loop-left.logs 0 0 inv.recorded c.requires

pub step_on-requires : goal.step_on-requires
step_on-requires g c =
    let space = g.S.ObjectSpace.meaning in
    let code = g.M.Machine.code in
    let p = c.args.pick in
    let start = world_of c.args.world.now in
    let v = world_of c.run_on.new.world in
    let both = makes_on space code c.args.steps p c.args.accesses c.loop-left.left c.in_ok-left.left start (world_of c.loop-left.world) v c.args.logs.now c.loop-left.logs c.run_on.new.logs c.loop-left.invariant c.in_ok-left.ensures in
    still_threads space code c.args.steps (replicate both.times p) start v c.args.logs.now c.run_on.new.logs 0 0 both.recorded c.requires

pub loop-left-preserved : goal.loop-left-preserved
loop-left-preserved g c =
    let space = g.S.ObjectSpace.meaning in
    let code = g.M.Machine.code in
    let p = c.args.pick in
    let start = world_of c.args.world.now in
    let v = world_of c.run_on.new.world in
    let u = world_of c.step_on.new.world in
    let both = makes_on space code c.args.steps p c.args.accesses c.loop-left.left c.in_ok-left.left start (world_of c.loop-left.world) v c.args.logs.now c.loop-left.logs c.run_on.new.logs c.loop-left.invariant c.in_ok-left.ensures in
    let one : StepsOn space code c.args.steps p c.in_ok-left.left v u c.run_on.new.logs c.step_on.new.logs (Some c.in-Some.rest) = subst (StepsOn space code c.args.steps p c.in_ok-left.left v u c.run_on.new.logs c.step_on.new.logs) c.in-Some.is c.in_ok-rest.ensures in
    makes_on space code c.args.steps p c.args.accesses c.in_ok-left.left c.in-Some.rest start v u c.args.logs.now c.run_on.new.logs c.step_on.new.logs both one.0

pub loop-left-smaller : goal.loop-left-smaller
loop-left-smaller g c =
    let space = g.S.ObjectSpace.meaning in
    let code = g.M.Machine.code in
    let p = c.args.pick in
    let v = world_of c.run_on.new.world in
    let u = world_of c.step_on.new.world in
    let one : StepsOn space code c.args.steps p c.in_ok-left.left v u c.run_on.new.logs c.step_on.new.logs (Some c.in-Some.rest) = subst (StepsOn space code c.args.steps p c.in_ok-left.left v u c.run_on.new.logs c.step_on.new.logs) c.in-Some.is c.in_ok-rest.ensures in
    let made = steps_made space code c.args.steps g.met.M.Machine.laws p c.loop-left.left c.in_ok-left.left (world_of c.loop-left.world) v c.loop-left.logs c.run_on.new.logs c.in_ok-left.ensures in
    let fewer = fewer_left space code c.args.steps g.met.M.Machine.laws p c.in_ok-left.left c.in-Some.rest v u c.run_on.new.logs c.step_on.new.logs one.0 one.1 in
    omega (arith, made, fewer)

pub returns-in_default : goal.returns-in_default
returns-in_default g c =
    let space = g.S.ObjectSpace.meaning in
    let code = g.M.Machine.code in
    let p = c.args.pick in
    let start = world_of c.args.world.now in
    let v = world_of c.run_on.new.world in
    let u = world_of c.step_on.new.world in
    let both = makes_on space code c.args.steps p c.args.accesses c.loop-left.left c.in_ok-left.left start (world_of c.loop-left.world) v c.args.logs.now c.loop-left.logs c.run_on.new.logs c.loop-left.invariant c.in_ok-left.ensures in
    stretch_over space code c.args.steps p c.args.accesses c.in_ok-left.left start v u c.args.logs.now c.run_on.new.logs c.step_on.new.logs both
    (subst (StepsOn space code c.args.steps p c.in_ok-left.left v u c.run_on.new.logs c.step_on.new.logs) c.in_default.is c.in_ok-rest.ensures)
