use Rattle.std.proofs.Common.{◌≡◌, true, take}
use Rattle.std.specs.List.{list_all}
use Rattle.validator.specs.Module.{data_fits}
use Rattle.validator.proofs.rules.fit_data.Given as goal

-- the items so far keep the rule
abbrev pub invariant-loop-number : goal.invariant-loop-number
invariant-loop-number l = list_all (data_fits l.module) (take l.number l.segment-items) ≡ true
