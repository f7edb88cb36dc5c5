use Rattle.recorder.specs.Least.{IsFound}
use Rattle.recorder.proofs.small_schedules.shrink.Given as goal

abbrev pub invariant-loop : goal.invariant-loop
invariant-loop g l =
    (goal.iterator-loop g).can_next l.iterator' × (goal.iterator-loop g).is_finite l.iterator'
    × IsFound (g.T.Trial.comes l.trial) l.found
