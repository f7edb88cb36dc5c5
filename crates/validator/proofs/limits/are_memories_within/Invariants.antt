use Rattle.std.proofs.Common.{◌≡◌, true, take}
use Rattle.std.specs.List.{list_all}
use Rattle.std.specs.Prelude.{nat_le}
use Rattle.validator.proofs.limits.are_memories_within.Given as goal

-- the memories so far are within the limit
abbrev pub invariant-loop-memory : goal.invariant-loop-memory
invariant-loop-memory l = list_all (λ y. nat_le y.limits.minimum 256) (take l.memory-index l.memories) ≡ true
