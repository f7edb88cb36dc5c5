use Rattle.std.proofs.Common.{◌≡◌}
use Rattle.wreplay_bench.proofs.locks.LoadsWorkStripedMemory.work.Given as goal

abbrev pub invariant-loop-made : goal.invariant-loop-made
invariant-loop-made g l = l.seat.thread ≡ l.initial.seat.thread
