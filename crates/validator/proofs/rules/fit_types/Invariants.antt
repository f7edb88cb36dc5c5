use Rattle.std.proofs.Common.{◌≡◌, true, take}
use Rattle.std.specs.List.{list_all}
use Rattle.validator.specs.Module.{has_one_result}
use Rattle.validator.proofs.rules.fit_types.Given as goal

-- the items so far keep the rule
abbrev pub invariant-loop-number : goal.invariant-loop-number
invariant-loop-number l = list_all has_one_result (take l.number l.kind-items) ≡ true
