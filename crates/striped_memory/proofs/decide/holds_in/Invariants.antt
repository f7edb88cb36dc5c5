use Rattle.std.proofs.Common.{◌≡◌, drop}
use Rattle.memory_parts.specs.SharedCut.{holds_in}
use Rattle.striped_memory.proofs.decide.holds_in.Given as goal

abbrev pub invariant-loop-one : goal.invariant-loop-one
invariant-loop-one l = holds_in (drop l.one-index l.seen) ≡ holds_in l.seen
