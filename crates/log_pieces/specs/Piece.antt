-- What a piece says of one thread of a run, and the rules that a piece keeps.
use Rattle.std.specs.Prelude.{◌≡◌, ℕ, ◌+◌, ◌/◌, ◌^◌, Bool, true, false, ◌&&◌, ◌||◌, not, nat_lt, nat_le, if◌then◌else◌, List, [], ◌∷◌, length, Option, Some, None, is_none}
use Rattle.std.specs.List.{list_all}
use Rattle.wasm_types.specs.declared.sizes.TheConstants.{MOST_STEPS}
use Rattle.wasm_types.specs.declared.key.RunKey.{RunKey}
use Rattle.wasm_types.specs.declared.key.Profile.{Profile}
use Rattle.wasm_types.specs.declared.key.Profile.TheVariants.{One, Two}
use Rattle.rw_objects.specs.declared.touch.Found.{Found}
use Rattle.rw_objects.specs.declared.entry.Entry.{Entry}
use Rattle.rw_objects.specs.Touch.{object_of}
use Rattle.log_pieces.specs.declared.end.End.{End}
use Rattle.log_pieces.specs.declared.fault.PieceFault.{PieceFault}
use Rattle.log_pieces.specs.declared.fault.PieceFault.TheVariants.{Empty, TooMany, PastEnd, BadThread, BadEntry}

-- a run, a thread of it, the thread's entries from the place `first` on, and perhaps how the thread ended
pub record PieceValue : Type 0 where
  pub key : RunKey
  pub thread : ℕ
  pub first : ℕ
  pub entries : List Entry
  pub end : Option End

abbrev pub is_empty : List Entry → Option End → Bool
is_empty [] end = is_none end
is_empty (entry ∷ entries) end = false

-- so many places are more than the end has, or the end has more places than steps, or there are too many of either
abbrev pub passes_end : ℕ → Option End → Bool
passes_end places None = nat_lt MOST_STEPS places
passes_end places (Some end) = nat_lt end.places places || nat_lt end.steps end.places || nat_lt MOST_STEPS end.steps

-- the last object: 32,768 where blocks have 64 bytes and a memory 16 pages
abbrev pub greatest_object : Profile → ℕ
greatest_object One = 32768
greatest_object (Two power) = 2 ^ 25 / 2 ^ power

-- each object is below the next
abbrev pub rises : List Found → Bool
rises [] = true
rises (x ∷ []) = true
rises (x ∷ y ∷ rest) = nat_lt (object_of x) (object_of y) && rises (y ∷ rest)

abbrev pub objects_fit : ℕ → List Found → Bool
objects_fit greatest found = list_all (λ touch. nat_le (object_of touch) greatest) found

-- one to three touches of rising objects, none above the greatest
abbrev pub is_entry : ℕ → Entry → Bool
is_entry greatest entry =
    nat_lt 0 (length entry.found) && nat_le (length entry.found) 3 && rises entry.found && objects_fit greatest entry.found

-- the first rule that is broken
unfoldable pub piece_fault : PieceValue → Option PieceFault
piece_fault p =
    if is_empty p.entries p.end then Some Empty
    else if nat_lt 4096 (length p.entries) then Some TooMany
    else if passes_end (p.first + length p.entries) p.end then Some PastEnd
    else if nat_lt 15 p.thread then Some BadThread
    else if not (list_all (is_entry (greatest_object p.key.profile)) p.entries) then Some BadEntry
    else None

-- p keeps the rules
abbrev pub IsPiece : PieceValue → Type 0
IsPiece p = piece_fault p ≡ None
