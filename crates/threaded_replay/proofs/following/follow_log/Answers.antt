use Rattle.std.proofs.Common.{true, Some, refl, sym, ap, ◌∙◌}
use Rattle.workers.specs.Driving.{driven}
use Rattle.workers.proofs.Advancing.{advances_nowhere}
use Rattle.threaded_replay.proofs.following.follow_log.Goals as goal

pub follow_to-requires-clause-limit : goal.follow_to-requires-clause-limit
follow_to-requires-clause-limit g c = g.met.L.ReadLog.limits c.args.log.now c.thread-number.result c.in-Some-Known.end (sym c.in-Some-Known.ensures ∙ ap Some c.in-Some-Known.field-0-is)

pub returns-then-number-ge-MOST_THREADS-clause-advances : goal.returns-then-number-ge-MOST_THREADS-clause-advances
returns-then-number-ge-MOST_THREADS-clause-advances g c = advances_nowhere g.S.ObjectSpace.meaning g.M.Machine.code (λ t s. true) _ (driven g.M.Machine.state c.args.thread.now c.args.seat.now) refl

pub returns-in_default-clause-advances : goal.returns-in_default-clause-advances
returns-in_default-clause-advances g c = advances_nowhere g.S.ObjectSpace.meaning g.M.Machine.code (λ t s. true) _ (driven g.M.Machine.state c.args.thread.now c.args.seat.now) refl

pub returns-in_default-2-clause-advances : goal.returns-in_default-2-clause-advances
returns-in_default-2-clause-advances g c = advances_nowhere g.S.ObjectSpace.meaning g.M.Machine.code (λ t s. true) _ (driven g.M.Machine.state c.args.thread.now c.args.seat.now) refl
