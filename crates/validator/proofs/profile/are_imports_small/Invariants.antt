use Rattle.std.proofs.Common.{◌≡◌, take}
use Rattle.std.specs.List.{list_all}
use Rattle.validator.specs.Valid.{import_is_small}
use Rattle.validator.proofs.profile.are_imports_small.Given as goal

-- the items so far are tested
abbrev pub invariant-loop-import : goal.invariant-loop-import
invariant-loop-import l = l.small ≡ list_all import_is_small (take l.import-index l.imports)
