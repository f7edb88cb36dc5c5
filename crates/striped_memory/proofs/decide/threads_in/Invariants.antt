use Rattle.std.proofs.Common.{◌≡◌, drop}
use Rattle.memory_parts.specs.SharedCut.{threads_in}
use Rattle.striped_memory.proofs.decide.threads_in.Given as goal

abbrev pub invariant-loop-one : goal.invariant-loop-one
invariant-loop-one l = threads_in (drop l.one-index l.seen) ≡ threads_in l.seen
