use Rattle.std.proofs.Common.{◌≡◌, true, take}
use Rattle.std.specs.List.{list_all}
use Rattle.validator.specs.Module.{is_short}
use Rattle.validator.proofs.rules.are_short.Given as goal

-- the items so far keep the rule
abbrev pub invariant-loop-function : goal.invariant-loop-function
invariant-loop-function l = list_all is_short (take l.function l.body-items) ≡ true
