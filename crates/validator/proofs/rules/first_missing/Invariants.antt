use Rattle.std.proofs.Common.{◌≡◌, true, take}
use Rattle.std.specs.List.{list_all}
use Rattle.std.specs.Prelude.{nat_lt}
use Rattle.validator.proofs.rules.first_missing.Given as goal

-- the items so far keep the rule
abbrev pub invariant-loop-place : goal.invariant-loop-place
invariant-loop-place l = list_all (λ index. nat_lt index l.bound) (take l.place l.indices) ≡ true
