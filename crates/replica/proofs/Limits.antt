-- Ends of at most 1,000,000,000 steps.
use Rattle.std.proofs.Common.{◌≡◌, ◌+◌, ◌≤◌, false, ◌||◌, length, Option, Some, subst}
use Rattle.std.specs.Prelude.{nat_lt}
use Rattle.std.proofs.lemmas.Bool.{ltb-false}
use Rattle.log_pieces.specs.declared.end.End.{End}
use Rattle.log_pieces.specs.Piece.{PieceValue, IsPiece, passes_end}
use Rattle.log_pieces.specs.Rules.{rules_of, neither}

-- a piece's end keeps to it
pub piece_few : (piece : PieceValue) (end : End) → IsPiece piece → piece.end ≡ Some end → end.steps ≤ 1000000000
piece_few piece end rules is =
    let places = piece.first + length piece.entries in
    let inside : passes_end places (Some end) ≡ false = subst (λ (o : Option End). passes_end places o ≡ false) is (rules_of piece rules).inside in
    ltb-false _ _ (neither (nat_lt end.places places || nat_lt end.steps end.places) (nat_lt 1000000000 end.steps) inside).1
