use Rattle.recorder.specs.Least.{IsFound}
use Rattle.recorder.proofs.small_schedules.cut_all.Given as goal

abbrev pub invariant-loop-at : goal.invariant-loop-at
invariant-loop-at g l = IsFound (g.T.Trial.comes l.trial) l.found

abbrev pub decreases-loop-at : goal.decreases-loop-at
decreases-loop-at g l = l.at
