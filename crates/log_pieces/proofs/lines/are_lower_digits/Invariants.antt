-- The digits so far are tested.
use Rattle.std.proofs.Common.{◌≡◌, take}
use Rattle.std.specs.List.{list_all}
use Rattle.log_pieces.specs.Line.{is_lower_digit}
use Rattle.log_pieces.proofs.lines.are_lower_digits.Given as goal

abbrev pub invariant-loop-digit : goal.invariant-loop-digit
invariant-loop-digit l = l.all_lower ≡ list_all is_lower_digit (take l.digit-index l.digits)
