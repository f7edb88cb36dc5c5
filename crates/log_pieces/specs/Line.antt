-- The line of a piece: its bytes in lower-case hexadecimal digits, and the line end.
use Rattle.std.specs.Prelude.{◌≡◌, ◌≢◌, ℕ, Bool, ◌&&◌, ◌||◌, nat_le, List, [], ◌∷◌, ◌++◌}
use Rattle.std.specs.List.{All}
use Rattle.hex.specs.Hex.{encode_lower}
use Rattle.log_pieces.specs.Piece.{PieceValue, IsPiece}
use Rattle.log_pieces.specs.Widths.{Fits}
use Rattle.log_pieces.specs.Spelling.{spelling}

abbrev pub line_of : PieceValue → List ℕ
line_of p = encode_lower (spelling p) ++ 10 ∷ []

-- the bytes are the line of p, which keeps the rules
pub record IsLineOf (line : List ℕ) (p : PieceValue) : Type 0 where
  pub rules : IsPiece p
  pub fits : Fits p
  pub written : line ≡ line_of p

-- 10 is the last byte, and no other
pub record EndsOnce (line : List ℕ) : Type 0 where
  pub digits : List ℕ
  pub ended : line ≡ digits ++ 10 ∷ []
  pub none_before : All (λ byte. byte ≢ 10) digits

-- `0` to `9` are 48 to 57, `a` to `f` are 97 to 102
abbrev pub is_lower_digit : ℕ → Bool
is_lower_digit c = (nat_le 48 c && nat_le c 57) || (nat_le 97 c && nat_le c 102)
