-- Entries of a thread's log, as a listing has them.
use Rattle.std.specs.Prelude.{ℕ, zero, suc, ◌+◌, ◌-◌, List, [], ◌∷◌, ◌++◌, Option, Some, None, codes}
use Rattle.std.specs.Fmt.{decimal}
use Rattle.rw_objects.specs.declared.entry.Entry.{Entry}
use Rattle.log_pieces.specs.declared.flat.Flat.{Flat}
use Rattle.replay_laws.specs.Log.{Log}
use Rattle.replica.specs.Listing.{item_text}

-- `T.P access r33@2`, or `T.P clash`
abbrev pub entry_line : ℕ → ℕ → Flat Entry → List ℕ
entry_line thread place item = decimal thread ++ (codes "." ++ (decimal place ++ (codes " " ++ (item_text item ++ 10 ∷ []))))

abbrev pub item_line : ℕ → ℕ → Option (Flat Entry) → List ℕ
item_line thread place None = []
item_line thread place (Some item) = entry_line thread place item

-- so many places of a thread, from the first on
abbrev pub items_text : Log → ℕ → ℕ → ℕ → List ℕ
items_text log thread first zero = []
items_text log thread first (suc n) = items_text log thread first n ++ item_line thread (first + n) (log.entry thread (first + n))

abbrev pub next_line : ℕ → ℕ → Option (Flat Entry) → List ℕ
next_line thread place None = []
next_line thread place (Some item) = codes "next " ++ entry_line thread place item

-- the last n of the events that a thread made, and what the log has of its next
abbrev pub around_text : Log → ℕ → ℕ → ℕ → List ℕ
around_text log thread places n = items_text log thread (places - n) (places - (places - n)) ++ next_line thread places (log.entry thread places)
