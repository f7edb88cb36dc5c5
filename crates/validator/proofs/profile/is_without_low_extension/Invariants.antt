use Rattle.std.proofs.Common.{◌≡◌, take}
use Rattle.std.specs.List.{list_all}
use Rattle.validator.specs.Valid.{negated, is_low_extension}
use Rattle.validator.proofs.profile.is_without_low_extension.Given as goal

-- the items so far are tested
abbrev pub invariant-loop-instr : goal.invariant-loop-instr
invariant-loop-instr l = l.without ≡ list_all (λ i. negated (is_low_extension i)) (take l.instr-index l.code)
