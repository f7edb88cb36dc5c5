use Rattle.std.proofs.Common.{◌≡◌, ◌∙◌, ap, subst}
use Rattle.event_core.specs.declared.pick.Input.TheVariants.{Go}
use Rattle.replay_laws.specs.History.{op_at}
use Rattle.workers.specs.Driving.{driven, went_on, Advances}
use Rattle.workers.proofs.Advancing.{advances_still}
use Rattle.workers.proofs.recording_thread.sleep.Goals as goal

pub returns-in-Ok-true-clause-advances : goal.returns-in-Ok-true-clause-advances
returns-in-Ok-true-clause-advances g c =
    advances_still g.S.ObjectSpace.meaning g.M.Machine.code (λ t s. g.T.Timer.can_expire t (g.M.Machine.nanos_of s)) (driven g.M.Machine.state c.args.thread.now c.args.seat.now) (driven g.M.Machine.state c.loop.thread c.loop.seat) (driven g.M.Machine.state c.enter.new.thread c.enter.new.seat)
    Go c.args.resume (went_on c.enter.result) c.loop.invariant.2 (ap (λ n. op_at n Go) c.requires.asleep) c.requires.steps tt c.enter.ensures.entered c.enter.ensures.kept

pub returns-in-Err-clause-advances : goal.returns-in-Err-clause-advances
returns-in-Err-clause-advances g c =
    advances_still g.S.ObjectSpace.meaning g.M.Machine.code (λ t s. g.T.Timer.can_expire t (g.M.Machine.nanos_of s)) (driven g.M.Machine.state c.args.thread.now c.args.seat.now) (driven g.M.Machine.state c.loop.thread c.loop.seat) (driven g.M.Machine.state c.enter.new.thread c.enter.new.seat)
    Go c.args.resume (went_on c.enter.result) c.loop.invariant.2 (ap (λ n. op_at n Go) c.requires.asleep) c.requires.steps tt c.enter.ensures.entered c.enter.ensures.kept

pub returns-in-Ok-true-time_out-clause-advances : goal.returns-in-Ok-true-time_out-clause-advances
returns-in-Ok-true-time_out-clause-advances g c =
    subst (λ x. Advances g.M.Machine.code (λ t s. g.T.Timer.can_expire t (g.M.Machine.nanos_of s)) x (driven g.M.Machine.state c.time_out.new.thread c.time_out.new.seat))
    (c.in-Ok-false.ensures.kept c.in-Ok-false.field-0-test ∙ c.loop.invariant.2) c.time_out.ensures.advances

pub returns-in-Err-time_out-clause-advances : goal.returns-in-Err-time_out-clause-advances
returns-in-Err-time_out-clause-advances g c =
    subst (λ x. Advances g.M.Machine.code (λ t s. g.T.Timer.can_expire t (g.M.Machine.nanos_of s)) x (driven g.M.Machine.state c.time_out.new.thread c.time_out.new.seat))
    (c.in-Ok-false.ensures.kept c.in-Ok-false.field-0-test ∙ c.loop.invariant.2) c.time_out.ensures.advances

pub returns-then-rest-seen-clause-advances : goal.returns-then-rest-seen-clause-advances
returns-then-rest-seen-clause-advances g c =
    subst (λ x. Advances g.M.Machine.code (λ t s. g.T.Timer.can_expire t (g.M.Machine.nanos_of s)) x (driven g.M.Machine.state c.time_out.new.thread c.time_out.new.seat))
    (c.in-Ok-false.ensures.kept c.in-Ok-false.field-0-test ∙ c.loop.invariant.2) c.time_out.ensures.advances
