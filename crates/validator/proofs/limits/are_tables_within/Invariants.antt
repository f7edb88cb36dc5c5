use Rattle.std.proofs.Common.{◌≡◌, true, take}
use Rattle.std.specs.List.{list_all}
use Rattle.std.specs.Prelude.{nat_le}
use Rattle.validator.proofs.limits.are_tables_within.Given as goal

-- the tables so far are within the limit
abbrev pub invariant-loop-table : goal.invariant-loop-table
invariant-loop-table l = list_all (λ l. nat_le l.minimum 4096) (take l.table-index l.tables) ≡ true
