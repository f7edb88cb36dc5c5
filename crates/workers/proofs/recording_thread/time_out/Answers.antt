use Rattle.std.proofs.Common.{◌≡◌, ◌∙◌, ap, subst, refl, true}
use Rattle.event_core.specs.declared.pick.Input.TheVariants.{TimeOut}
use Rattle.replay_laws.specs.History.{op_at}
use Rattle.workers.specs.Driving.{driven, went_on}
use Rattle.workers.proofs.Advancing.{advances_if, advances_nowhere}
use Rattle.workers.proofs.recording_thread.time_out.Goals as goal

pub returns-in-None-clause-advances : goal.returns-in-None-clause-advances
returns-in-None-clause-advances g c = advances_nowhere g.S.ObjectSpace.meaning g.M.Machine.code _ _ (driven g.M.Machine.state c.args.thread.now c.args.seat.now) refl

pub returns-else-expired-clause-advances : goal.returns-else-expired-clause-advances
returns-else-expired-clause-advances g c = advances_nowhere g.S.ObjectSpace.meaning g.M.Machine.code _ _ (driven g.M.Machine.state c.args.thread.now c.args.seat.now) refl

pub returns-then-expired-clause-advances : goal.returns-then-expired-clause-advances
returns-then-expired-clause-advances g c =
    let code = g.M.Machine.code in
    let a = driven g.M.Machine.state c.args.thread.now c.args.seat.now in
    let b = driven g.M.Machine.state c.enter.new.thread c.enter.new.seat in
    let may = subst (λ t. g.T.Timer.can_expire t (g.M.Machine.nanos_of a.thread.state) ≡ true) c.thread.ensures
    (subst (λ n. g.T.Timer.can_expire c.thread.result n ≡ true) c.nanos-nanos.ensures (c.expired.ensures c.if-expired.true)) in
    advances_if g.S.ObjectSpace.meaning code (λ t s. g.T.Timer.can_expire t (g.M.Machine.nanos_of s)) a b TimeOut c.in-Some.out (went_on c.enter.result)
    (ap (λ n. op_at n TimeOut) c.requires.asleep ∙ c.in-Some.is) c.requires.steps may c.enter.ensures.entered c.enter.ensures.kept
