-- Those so far, and those that are still to be found.
use Rattle.std.proofs.Common.{◌≡◌, ◌++◌, drop}
use Rattle.commands.specs.Records.{stopped_from}
use Rattle.commands.proofs.stopped.stopped_threads.Given as goal

abbrev pub invariant-loop-thread : goal.invariant-loop-thread
invariant-loop-thread l = l.stopped.items ++ stopped_from l.most l.thread (drop l.thread l.threads) ≡ stopped_from l.most 0 l.threads
