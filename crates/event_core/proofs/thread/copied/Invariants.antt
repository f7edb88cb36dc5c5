use Rattle.std.proofs.Common.{◌≡◌, take}
use Rattle.event_core.specs.Threads.{threads_of}
use Rattle.event_core.proofs.thread.copied.Given as goal

abbrev pub invariant-loop-thread : goal.invariant-loop-thread
invariant-loop-thread g l = threads_of g.M.Machine.state l.copy.items ≡ threads_of g.M.Machine.state (take l.thread-index l.threads)
