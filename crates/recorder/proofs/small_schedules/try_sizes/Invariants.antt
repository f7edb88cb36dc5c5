use Rattle.recorder.specs.Least.{IsFound}
use Rattle.recorder.proofs.small_schedules.try_sizes.Given as goal

abbrev pub invariant-loop-size : goal.invariant-loop-size
invariant-loop-size g l = IsFound (g.T.Trial.comes l.trial) l.found

abbrev pub decreases-loop-size : goal.decreases-loop-size
decreases-loop-size g l = l.size
