use Rattle.std.proofs.Common.{◌≡◌, take}
use Rattle.pick_schedule.specs.Stretches.{picks_in}
use Rattle.pick_schedule.specs.Printing.{AreOfThreads}
use Rattle.pick_schedule.proofs.stretches.Schedule.of_stretches.Given as goal

-- the picks of the stretches so far
abbrev pub invariant-loop-stretch : goal.invariant-loop-stretch
invariant-loop-stretch l = (l.schedule ≡ picks_in (take l.stretch-index l.stretches)) × AreOfThreads l.schedule
