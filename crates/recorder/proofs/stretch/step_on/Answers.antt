use Rattle.std.proofs.Common.{◌≡◌, true, sym, ap, ◌∙◌, Some, rules}
use Rattle.event_core.specs.World.{world_of, step_of_pick}
use Rattle.recorder.specs.Draw.{is_event}
use Rattle.recorder.specs.Few.{left_behind}
use Rattle.recorder.proofs.DrawnStretches.{steps_tried}
use Rattle.recorder.proofs.stretch.step_on.Goals as goal

pub returns-then-branch : goal.returns-then-branch
returns-then-branch g c =
    let space = g.S.ObjectSpace.meaning in
    let code = g.M.Machine.code in
    let w = world_of c.args.world.now in
    let done : c.in_ok-try_pick.field-0 ≡ true = search rules in
    let left : left_behind (is_event (step_of_pick space code w c.args.pick)) c.args.left ≡ Some c.in-Some.rest =
    ap (λ b. left_behind b c.args.left) (sym c.is_event.ensures) ∙ sym c.left_behind.ensures ∙ c.in-Some.is in
    steps_tried space code c.args.steps c.args.pick c.args.left c.in-Some.rest w (world_of c.try_pick.new.world) c.args.logs.now c.try_pick.new.logs left (sym c.in_ok-try_pick.ensures.taken ∙ done) c.in_ok-try_pick.ensures.world (c.in_ok-try_pick.ensures.noted done)
