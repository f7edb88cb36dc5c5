use Rattle.std.proofs.Common.{◌≡◌, take}
use Rattle.pick_schedule.proofs.stretches.Schedule.of.Given as goal

abbrev pub invariant-loop-pick : goal.invariant-loop-pick
invariant-loop-pick l = l.schedule ≡ take l.pick-index l.picks
