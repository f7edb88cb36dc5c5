use Rattle.std.proofs.Common.{◌≡◌, drop}
use Rattle.shared_core.specs.Resting.{awaiting, woken, wakes}
use Rattle.shared_core.proofs.resting.Resting.awaiting.Given as goal

abbrev pub invariant-loop-number : goal.invariant-loop-number
invariant-loop-number l = woken l.wakes (awaiting l.length l.number (drop l.number l.self.seats.items)) ≡ wakes (awaiting l.length 0 l.self.seats.items)
