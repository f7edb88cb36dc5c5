-- The chart of what was found.
use Rattle.std.proofs.Common.{◌≡◌, List, [], ◌∷◌, ℕ, sym, ◌∙◌}
use Rattle.std.specs.Prelude.{Option, Some, None}
use Rattle.log_pieces.specs.Piece.{PieceValue}
use Rattle.replica.specs.declared.replica.Replica.{Replica}
use Rattle.replica.specs.Judged.{IsFound}
use Rattle.replica.specs.ObjectLines.{ChartAsked}
use Rattle.replica.specs.Drawing.{no_pieces}
use Rattle.replica.specs.Chart.{IsChart}

pub none_charted : (asked : ChartAsked) (pieces : List PieceValue) (found : Option Replica) (text : List ℕ) → found ≡ None → text ≡ no_pieces → IsFound pieces found → IsChart asked pieces text
none_charted asked [] found text is same h = same
none_charted asked (first ∷ pieces) found text is same h = let e : None ≡ Some h.0 = sym is ∙ h.1 in absurd cc
