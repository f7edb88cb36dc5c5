use Rattle.std.proofs.Common.{◌≡◌, take}
use Rattle.std.specs.List.{list_all}
use Rattle.validator.specs.Valid.{is_small}
use Rattle.validator.proofs.profile.are_small.Given as goal

-- the items so far are tested
abbrev pub invariant-loop-memory : goal.invariant-loop-memory
invariant-loop-memory l = l.small ≡ list_all is_small (take l.memory-index l.memories)
