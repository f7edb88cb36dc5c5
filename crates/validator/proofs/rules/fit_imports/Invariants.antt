use Rattle.std.proofs.Common.{◌≡◌, true, take}
use Rattle.std.specs.List.{list_all}
use Rattle.validator.specs.Module.{import_fits}
use Rattle.validator.proofs.rules.fit_imports.Given as goal

-- the items so far keep the rule
abbrev pub invariant-loop-import : goal.invariant-loop-import
invariant-loop-import l = list_all import_fits (take l.import-index l.import-items) ≡ true
