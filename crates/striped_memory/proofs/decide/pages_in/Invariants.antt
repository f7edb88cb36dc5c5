use Rattle.std.proofs.Common.{◌≡◌, drop}
use Rattle.memory_parts.specs.SharedCut.{pages_in, capacity_in}
use Rattle.striped_memory.proofs.decide.pages_in.Given as goal

abbrev pub invariant-loop-one : goal.invariant-loop-one
invariant-loop-one l = (pages_in l.unseen (drop l.one-index l.seen) ≡ pages_in l.unseen l.seen) × (capacity_in (drop l.one-index l.seen) ≡ capacity_in l.seen)
