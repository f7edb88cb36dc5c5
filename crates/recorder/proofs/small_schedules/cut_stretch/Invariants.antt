use Rattle.std.proofs.Common.{◌-◌}
use Rattle.recorder.specs.Least.{IsFound}
use Rattle.recorder.proofs.small_schedules.cut_stretch.Given as goal

abbrev pub invariant-loop-few : goal.invariant-loop-few
invariant-loop-few g l = IsFound (g.T.Trial.comes l.trial) l.found

abbrev pub decreases-loop-few : goal.decreases-loop-few
decreases-loop-few g l = l.enough - l.few
