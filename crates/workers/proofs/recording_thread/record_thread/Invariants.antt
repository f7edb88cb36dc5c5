use Rattle.std.proofs.Common.{◌≡◌, ◌≤◌}
use Rattle.event_core.specs.Sound.{IsSoundThread}
use Rattle.workers.specs.Driving.{driven, Advances}
use Rattle.workers.proofs.recording_thread.record_thread.Given as goal

abbrev pub invariant-loop : goal.invariant-loop
invariant-loop g l =
    (goal.iterator-loop g).can_next l.iterator' × (goal.iterator-loop g).is_finite l.iterator'
    × IsSoundThread g.M.Machine.code g.J.Opening.named.memory (driven g.M.Machine.state l.thread l.seat).thread
    × (g.M.Machine.code.steps (g.M.Machine.state l.thread.machine) ≤ l.steps)
    × Advances g.M.Machine.code (λ t s. g.T.Timer.can_expire t (g.M.Machine.nanos_of s)) (driven g.M.Machine.state l.initial.thread l.initial.seat) (driven g.M.Machine.state l.thread l.seat)
