use Rattle.std.proofs.Common.{◌≡◌, true, take}
use Rattle.std.specs.List.{list_all}
use Rattle.std.specs.Prelude.{nat_le}
use Rattle.validator.proofs.limits.are_imports_within.Given as goal

-- the imports so far are within the limit
abbrev pub invariant-loop-import : goal.invariant-loop-import
invariant-loop-import l = list_all (λ i. nat_le i.memory.limits.minimum 256) (take l.import-index l.imports) ≡ true
