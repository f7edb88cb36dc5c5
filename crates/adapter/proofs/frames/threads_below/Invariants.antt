-- the threads so far are told
use Rattle.std.proofs.Common.{◌≡◌}
use Rattle.adapter.specs.Frames.{threads_below}
use Rattle.adapter.proofs.frames.threads_below.Given as goal

abbrev pub invariant-loop-thread : goal.invariant-loop-thread
invariant-loop-thread l = l.threads ≡ threads_below l.thread
