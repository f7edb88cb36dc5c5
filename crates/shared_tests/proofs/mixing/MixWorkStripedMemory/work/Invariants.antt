use Rattle.std.proofs.Common.{◌≡◌}
use Rattle.shared_tests.proofs.mixing.MixWorkStripedMemory.work.Given as goal

abbrev pub invariant-loop-turn : goal.invariant-loop-turn
invariant-loop-turn g l = l.seat.thread ≡ l.initial.seat.thread
