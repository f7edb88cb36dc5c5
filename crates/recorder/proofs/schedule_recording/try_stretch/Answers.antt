use Rattle.std.proofs.Common.{◌≡◌, ◌∙◌, false, sym, rules}
use Rattle.event_core.specs.World.{world_of}
use Rattle.recorder.specs.Picks.{is_taken}
use Rattle.recorder.proofs.Stretches.{passed_recorded}
use Rattle.recorder.proofs.schedule_recording.try_stretch.Goals as goal

pub returns-clause-recorded : goal.returns-clause-recorded
returns-clause-recorded g c =
    let w = world_of c.args.world.now in
    let p = c.args.stretch.pick in
    let not : c.in_ok-try_pick.field-0 ≡ false = search rules in
    let kept = c.in_ok-try_pick.ensures.kept not in
    let over : is_taken g.S.ObjectSpace.meaning g.M.Machine.code c.args.steps w p ≡ false = sym c.in_ok-try_pick.ensures.taken ∙ not in
    rw kept (passed_recorded g.S.ObjectSpace.meaning g.M.Machine.code c.args.steps p c.args.stretch.times w (world_of c.try_pick.new.world) c.args.logs.now c.args.passed.now over c.in_ok-try_pick.ensures.world)
