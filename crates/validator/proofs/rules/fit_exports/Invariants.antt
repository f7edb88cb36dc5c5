use Rattle.std.proofs.Common.{◌≡◌, true, take}
use Rattle.std.specs.List.{list_all}
use Rattle.validator.specs.Module.{export_fits}
use Rattle.validator.proofs.rules.fit_exports.Given as goal

-- the items so far keep the rule
abbrev pub invariant-loop-number : goal.invariant-loop-number
invariant-loop-number l = list_all (export_fits l.module) (take l.number l.export-items) ≡ true
