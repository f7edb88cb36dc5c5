-- The entries of the threads so far are joined.
use Rattle.replica.proofs.MergeLemmas.{EntriesSoFar}
use Rattle.replica.proofs.log.Log.join_entries.Given as goal

abbrev pub invariant-loop-thread : goal.invariant-loop-thread
invariant-loop-thread l = EntriesSoFar l.initial.self l.other l.thread l.self
