use Rattle.std.proofs.Common.{ℕ, ◌<◌, false}
use Rattle.pick_schedule.specs.Stretches.{picks_in}
use Rattle.recorder.specs.Least.{without}
use Rattle.recorder.proofs.small_schedules.one_less.Given as goal

abbrev pub invariant-loop-at : goal.invariant-loop-at
invariant-loop-at g l = (i : ℕ) → i < l.at → g.T.Trial.comes l.trial (picks_in (without i l.stretches)) false
