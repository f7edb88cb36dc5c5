use Rattle.recorder.specs.Least.{IsFound}
use Rattle.recorder.proofs.small_schedules.try_all.Given as goal

abbrev pub invariant-loop-end : goal.invariant-loop-end
invariant-loop-end g l = IsFound (g.T.Trial.comes l.trial) l.found

abbrev pub decreases-loop-end : goal.decreases-loop-end
decreases-loop-end g l = l.end
