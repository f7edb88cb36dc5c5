use Rattle.std.proofs.Common.{◌≤◌, length, sym, ap, subst, arith}
use Rattle.event_core.specs.World.{world_of}
use Rattle.replay_laws.specs.Finishing.{PassesOn}
use Rattle.replay_laws.specs.Turns.{turn_of, world_after_turn}
use Rattle.replay_gate.specs.Answers.{makes_step}
use Rattle.replay_gate.proofs.FarThreads.{far_done}
use Rattle.replay_gate.proofs.LeftSteps.{turned_left}
use Rattle.replay_gate.proofs.passing.pass_on.Goals as goal

pub returns-then-thread-ge16 : goal.returns-then-thread-ge16
returns-then-thread-ge16 g c =
    let space = g.S.ObjectSpace.meaning in
    let code = g.M.Machine.code in
    let log = g.L.ReadLog.log c.args.log.now in
    let w = world_of c.args.world.now in
    let t = c.args.thread in
    let far : length w.threads ≤ t = let few = c.args.world.now.sound.few in let past = c.if-thread-ge16.true in omega (arith, few, past) in
    let done = far_done space code log w t far in
    record {
      reads = c.requires.reads;
      left = c.requires.left;
      pass = subst PassesOn (sym done) tt;
      made = ap makes_step (sym done);
      world = ap (world_after_turn space code w t) (sym done);
      err = tt;
    }

pub returns-in-Ok-clause-left : goal.returns-in-Ok-clause-left
returns-in-Ok-clause-left g c =
    let space = g.S.ObjectSpace.meaning in
    let code = g.M.Machine.code in
    let log = g.L.ReadLog.log c.args.log.now in
    let u = world_of c.pass_locally.new.world in
    let v = world_of c.pass.new.world in
    let t = c.args.thread in
    turned_left space code log u v t c.steps_left.result (turn_of space code log u t) c.pass_locally.new.left c.in-Ok-false.ensures.left
    (let e = c.steps_left.ensures in omega (arith, e)) c.in-Ok.ensures.world (let e = c.pass_locally.array_long in let f = c.if-thread-ge16.false in omega (arith, e, f))
