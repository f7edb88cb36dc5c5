-- The ends of the threads so far are joined.
use Rattle.replica.proofs.MergeLemmas.{EndsSoFar}
use Rattle.replica.proofs.log.Log.join_ends.Given as goal

abbrev pub invariant-loop-thread : goal.invariant-loop-thread
invariant-loop-thread l = EndsSoFar l.initial.self l.other l.thread l.self
