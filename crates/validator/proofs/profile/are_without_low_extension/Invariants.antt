use Rattle.std.proofs.Common.{◌≡◌, take}
use Rattle.std.specs.List.{list_all}
use Rattle.validator.specs.Valid.{has_no_low_extension}
use Rattle.validator.proofs.profile.are_without_low_extension.Given as goal

-- the items so far are tested
abbrev pub invariant-loop-body : goal.invariant-loop-body
invariant-loop-body l = l.without ≡ list_all has_no_low_extension (take l.body-index l.bodies)
