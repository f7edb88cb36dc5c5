use Rattle.std.proofs.Common.{◌≡◌}
use Rattle.workers.specs.Driving.{driven}
use Rattle.workers.proofs.recording_thread.sleep.Given as goal

abbrev pub invariant-loop : goal.invariant-loop
invariant-loop g l =
    (goal.iterator-loop g).can_next l.iterator' × (goal.iterator-loop g).is_finite l.iterator'
    × (driven g.M.Machine.state l.thread l.seat ≡ driven g.M.Machine.state l.initial.thread l.initial.seat)
