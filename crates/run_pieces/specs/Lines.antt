-- What stands in the line of a piece before its entries.
use Rattle.std.specs.Prelude.{ℕ, List, ◌++◌, length}
use Rattle.log_pieces.specs.Piece.{PieceValue}
use Rattle.log_pieces.specs.Spelling.{u8, u16, u32, end_flag, key_bytes}

abbrev pub head_bytes : PieceValue → List ℕ
head_bytes p = key_bytes p.key ++ u8 p.thread ++ u32 p.first ++ u16 (length p.entries) ++ u8 (end_flag p.end)
