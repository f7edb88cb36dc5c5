-- The chart of a log.
use Rattle.std.specs.Prelude.{◌≡◌, ℕ, ◌-◌, List, [], ◌∷◌, length}
use Rattle.std.specs.List.{flat_map}
use Rattle.rw_objects.specs.declared.entry.Entry.{Entry}
use Rattle.log_pieces.specs.Piece.{PieceValue}
use Rattle.log_pieces.specs.declared.flat.Flat.{Flat}
use Rattle.log_pieces.specs.declared.flat.Flat.TheVariants.{Known, Clash}
use Rattle.replica.specs.declared.diverging.EventAt.{EventAt}
use Rattle.replica.specs.declared.log.Log.{Log}
use Rattle.replica.specs.Log.{items_at}
use Rattle.replica.specs.LogOf.{IsOrdered}
use Rattle.replica.specs.Gathered.{IsGathered}
use Rattle.replica.specs.Divergence.{threads}
use Rattle.replica.specs.declared.passage.EntryRow.{EntryRow}
use Rattle.replica.specs.Passage.{IsPassage, IsFull}
use Rattle.replica.specs.ObjectLines.{ChartAsked, lines_of}
use Rattle.replica.specs.Drawing.{drawing, no_pieces}

-- where a known entry stands
abbrev pub known_of_item : ℕ → ℕ × Flat Entry → List EventAt
known_of_item thread (place, Known entry) = record { thread = thread; place = place } ∷ []
known_of_item thread (place, Clash) = []

-- where the known entries of a log stand
abbrev pub known_events : Log → List EventAt
known_events log = flat_map (λ t. flat_map (known_of_item t) (items_at log t)) threads

-- the text draws rows of the log, each of which is let pass behind the ones in front of it, and behind which none is
pub record IsLogChart (asked : ChartAsked) (log : Log) (text : List ℕ) : Type 0 where
  pub rows : List EntryRow
  pub passage : IsPassage log [] rows
  pub full : IsFull log rows
  pub draws : text ≡ drawing (lines_of asked rows) (length (known_events log) - length rows)

-- the chart of the log of these pieces, or that of no piece
abbrev pub IsChart : ChartAsked → List PieceValue → List ℕ → Type 0
IsChart asked [] text = text ≡ no_pieces
IsChart asked (first ∷ pieces) text = (log : Log) × IsGathered (first ∷ pieces) log × IsOrdered log × IsLogChart asked log text
