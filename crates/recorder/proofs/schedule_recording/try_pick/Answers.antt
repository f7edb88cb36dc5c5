use Rattle.std.proofs.Common.{◌≡◌, ◌∙◌, true, slice_get, refl, sym, ap, subst, rules}
use Rattle.std.specs.Prelude.{Some}
use Rattle.event_core.specs.declared.step.PickStep.TheVariants as step
use Rattle.event_core.specs.declared.step.Stepped.TheVariants as stepped
use Rattle.event_core.specs.World.{world_of, has_steps_left}
use Rattle.recorder.specs.Recorded.{IsNoted}
use Rattle.recorder.proofs.Rest.{noted_event}
use Rattle.recorder.proofs.Taking.{takes}
use Rattle.recorder.proofs.schedule_recording.try_pick.Goals as goal

pub returns-in_ok-push-in-Event-clause-noted : goal.returns-in_ok-push-in-Event-clause-noted
returns-in_ok-push-in-Event-clause-noted g c = λ done.
    let space = g.S.ObjectSpace.meaning in
    let code = g.M.Machine.code in
    let w = world_of c.args.world.now in
    let p = c.args.pick in
    let left : has_steps_left code c.args.steps (slice_get w.threads p.thread) ≡ true = search rules in
    let t = takes space code c.args.steps w p (step.Event c.in-Event.op) left (sym c.step_of.ensures ∙ c.in-Event.is) refl in
    subst (IsNoted c.args.logs.now c.push.new.self p.thread) (ap (λ e. Some (stepped.Event e)) c.in_ok-entry-in-Event.ensures.entry ∙ sym t.step)
    (noted_event c.args.logs.now c.push.new.self p.thread c.in_ok-entry-in-Event.entry c.in_ok-push-in-Event.ensures.ok)
