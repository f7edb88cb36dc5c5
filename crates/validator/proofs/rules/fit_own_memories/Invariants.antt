use Rattle.std.proofs.Common.{◌≡◌, true, take}
use Rattle.std.specs.List.{list_all}
use Rattle.validator.specs.Module.{memory_fits}
use Rattle.validator.proofs.rules.fit_own_memories.Given as goal

-- the items so far keep the rule
abbrev pub invariant-loop-memory : goal.invariant-loop-memory
invariant-loop-memory l = list_all memory_fits (take l.memory-index l.memories) ≡ true
