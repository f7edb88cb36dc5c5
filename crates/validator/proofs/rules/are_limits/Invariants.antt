use Rattle.std.proofs.Common.{◌≡◌, true, take}
use Rattle.std.specs.List.{list_all}
use Rattle.validator.specs.Module.{limits_fit}
use Rattle.validator.proofs.rules.are_limits.Given as goal

-- the items so far keep the rule
abbrev pub invariant-loop-table : goal.invariant-loop-table
invariant-loop-table l = list_all limits_fit (take l.table-index l.tables) ≡ true
