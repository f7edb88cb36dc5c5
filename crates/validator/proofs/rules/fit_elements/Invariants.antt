use Rattle.std.proofs.Common.{◌≡◌, true, take}
use Rattle.std.specs.List.{list_all}
use Rattle.validator.specs.Module.{element_fits}
use Rattle.validator.proofs.rules.fit_elements.Given as goal

-- the items so far keep the rule
abbrev pub invariant-loop-segment : goal.invariant-loop-segment
invariant-loop-segment l = list_all (element_fits l.module) (take l.segment l.element-items) ≡ true
