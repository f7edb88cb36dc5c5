-- Texts that are made of a whole log.
use Rattle.std.specs.Prelude.{ℕ, List}
use Rattle.log_pieces.specs.Piece.{PieceValue}
use Rattle.replica.specs.Chosen.{asked_of, IsObjectListing}
use Rattle.replica.specs.ObjectLines.{chart_asked}
use Rattle.replica.specs.Chart.{IsChart}
use Rattle.program.specs.declared.log_texts.LogText.{LogText}
use Rattle.program.specs.declared.log_texts.LogText.TheVariants.{Objects, Chart}

-- the text of the log of these pieces
abbrev pub IsMade : LogText → List PieceValue → List ℕ → Type 0
IsMade (Objects choice) = IsObjectListing (asked_of choice)
IsMade (Chart choice) = IsChart (chart_asked choice)
