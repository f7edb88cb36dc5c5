-- The lines of an object.
use Rattle.std.specs.Prelude.{◌≡◌, ℕ, ◌==◌, nat_lt, ◌&&◌, ◌||◌, not, Bool, if◌then◌else◌, List, [], ◌∷◌, ◌++◌, map, length, codes}
use Rattle.std.specs.List.{list_any}
use Rattle.std.specs.Fmt.{decimal}
use Rattle.wasm_types.specs.Memories.{block_power}
use Rattle.log_pieces.specs.Piece.{PieceValue}
use Rattle.replica.specs.declared.log.Log.{Log}
use Rattle.replica.specs.Log.{key_of}
use Rattle.replica.specs.LogOf.{IsOrdered}
use Rattle.replica.specs.Gathered.{IsGathered}
use Rattle.replica.specs.Listing.{empty_listing}
use Rattle.replica.specs.Objects.{object_text}
use Rattle.replica.specs.declared.choice.Choice.{Choice}
use Rattle.replica.specs.declared.touch.ObjectTouch.{ObjectTouch}
use Rattle.replica.specs.Rising.{rising, by_number}
use Rattle.replica.specs.Touched.{object_of, thread_of, version_of, known_touches}
use Rattle.replica.specs.Versions.{is_write, version_line, knew}

-- two threads or more touched the object, one of them by a write
abbrev pub is_shared : List ObjectTouch → Bool
is_shared touches = nat_lt 1 (length (rising (map thread_of touches))) && list_any is_write touches

-- which objects are asked for: these alone, where any is named, and perhaps those alone that threads share
pub record ObjectsAsked : Type 0 where
  pub only : List ℕ
  pub shared : Bool

abbrev pub asked_of : Choice → ObjectsAsked
asked_of choice = record { only = choice.only.now; shared = choice.shared }

-- the objects are not named, or this one is
abbrev pub is_named : List ℕ → ℕ → Bool
is_named objects object = length objects == 0 || list_any (λ m. m == object) objects

abbrev pub is_chosen : ObjectsAsked → ℕ → List ObjectTouch → Bool
is_chosen choice object touches = is_named choice.only object && (not choice.shared || is_shared touches)

-- the lines of an object's versions, by rising version
abbrev pub versions_text : ℕ → List ObjectTouch → List ℕ
versions_text object touches = by_number version_of (λ v. version_line object v (knew touches v)) touches

-- `object O: ` and which bytes the object is
abbrev pub header_line : (ℕ → List ℕ) → ℕ → List ℕ
header_line text object = codes "object " ++ decimal object ++ codes ": " ++ text object ++ codes "\n"

abbrev pub chosen_lines : (ℕ → List ℕ) → ℕ → List ObjectTouch → List ℕ
chosen_lines text object touches = header_line text object ++ versions_text object touches

-- the lines of an object that is chosen: which bytes it is, and its versions
abbrev pub object_lines : ObjectsAsked → (ℕ → List ℕ) → ℕ → List ObjectTouch → List ℕ
object_lines choice text object touches = if is_chosen choice object touches then chosen_lines text object touches else []

-- the lines of the objects that are chosen, by rising object
abbrev pub lines : ObjectsAsked → (ℕ → List ℕ) → List ObjectTouch → List ℕ
lines choice text touches = by_number object_of (object_lines choice text) touches

-- the listing of a log's objects
abbrev pub object_listing : ObjectsAsked → Log → List ℕ
object_listing choice log = lines choice (object_text (block_power (key_of log).profile)) (known_touches log)

-- the listing of the objects of the log of these pieces, or that of no piece
abbrev pub IsObjectListing : ObjectsAsked → List PieceValue → List ℕ → Type 0
IsObjectListing choice [] text = text ≡ empty_listing
IsObjectListing choice (first ∷ pieces) text = (log : Log) × IsGathered (first ∷ pieces) log × IsOrdered log × (text ≡ object_listing choice log)
