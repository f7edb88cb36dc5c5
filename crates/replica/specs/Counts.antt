-- What is missing, stray or contradictory in a log.
use Rattle.std.specs.Prelude.{◌≡◌, ℕ, zero, suc, ◌+◌, ◌<◌, ◌≤◌, nat_le, List, [], ◌∷◌, count_by, sum_by, Option, Some, None, is_none, is_some, slice_get}
use Rattle.std.specs.Ordering.{nat_cmp}
use Rattle.rw_objects.specs.declared.entry.Entry.{Entry}
use Rattle.log_pieces.specs.declared.end.End.{End}
use Rattle.log_pieces.specs.declared.flat.Flat.{Flat}
use Rattle.log_pieces.specs.declared.flat.Flat.TheVariants.{Known, Clash}
use Rattle.log_pieces.specs.Keyed.{value_at}
use Rattle.log_pieces.specs.Runs.{runs}
use Rattle.replica.specs.declared.thread_log.ThreadLog.{ThreadLog}
use Rattle.replica.specs.declared.log.Log.{Log}
use Rattle.replica.specs.Log.{entry_at, end_at}
use Rattle.replica.specs.Flats.{known_end, is_clash}

-- so many places from a first one on
abbrev pub places : ℕ → ℕ → List ℕ
places first zero = []
places first (suc count) = first ∷ places (suc first) count

-- how many of the places below that one have no item
abbrev pub absent_below : List (ℕ × Flat Entry) → ℕ → ℕ
absent_below entries end = count_by (λ place. is_none (value_at nat_cmp entries place)) (places 0 end)

-- how many places below the known end's places have no item
abbrev pub missing_below : Option End → List (ℕ × Flat Entry) → ℕ
missing_below None entries = 0
missing_below (Some end) entries = absent_below entries end.places

-- how many items stand at or past the known end's places
abbrev pub strays_from : Option End → List (ℕ × Flat Entry) → ℕ
strays_from None entries = 0
strays_from (Some end) entries = count_by (λ e. nat_le end.places e.0) entries

abbrev pub end_clashes : Option (Flat End) → ℕ
end_clashes (Some Clash) = 1
end_clashes (Some (Known end)) = 0
end_clashes None = 0

abbrev pub thread_missing : ThreadLog → ℕ
thread_missing thread = missing_below (known_end thread.end) thread.entries

abbrev pub thread_strays : ThreadLog → ℕ
thread_strays thread = strays_from (known_end thread.end) thread.entries

-- how many items were claimed differently, the end among them
abbrev pub thread_clashes : ThreadLog → ℕ
thread_clashes thread = count_by (λ e. is_clash e.1) thread.entries + end_clashes thread.end

-- how many runs of neighbouring places of a thread have items
abbrev pub runs_of : Option ThreadLog → ℕ
runs_of None = 0
runs_of (Some thread) = runs thread.entries

abbrev pub runs_at : Log → ℕ → ℕ
runs_at log thread = runs_of (slice_get log.threads thread)

abbrev pub ends : Log → ℕ
ends log = count_by (λ thread. is_some (known_end thread.end)) log.threads

abbrev pub missing : Log → ℕ
missing log = sum_by thread_missing log.threads

abbrev pub strays : Log → ℕ
strays log = sum_by thread_strays log.threads

abbrev pub clashes : Log → ℕ
clashes log = sum_by thread_clashes log.threads

-- each place below that one has a known item, and no other place has an item
abbrev pub IsFilled : List (ℕ × Flat Entry) → ℕ → Type 0
IsFilled entries end = ((place : ℕ) → place < end → (entry : Entry) × (value_at nat_cmp entries place ≡ Some (Known entry)))
    × ((place : ℕ) → end ≤ place → value_at nat_cmp entries place ≡ None)

-- the end is known, and the places below its places are those that have items
abbrev pub IsWhole : ThreadLog → Type 0
IsWhole thread = (end : End) × (thread.end ≡ Some (Known end)) × IsFilled thread.entries end.places

-- nothing is claimed
abbrev pub IsBare : ThreadLog → Type 0
IsBare thread = (thread.end ≡ None) × ((place : ℕ) → value_at nat_cmp thread.entries place ≡ None)

-- a thread as a complete log of that many threads has it
abbrev pub IsFitting : ℕ → ℕ → ThreadLog → Type 0
IsFitting threads thread log = (thread < threads → IsWhole log) × (threads ≤ thread → IsBare log)

-- the first so many threads have known ends, each place below an end's places has a known item, no other place has an
-- item, nothing clashes, and nothing is claimed of another thread
pub record IsComplete (threads : ℕ) (log : Log) : Type 0 where
  pub whole : (thread : ℕ) → thread < threads → (end : End) × (end_at log thread ≡ Some (Known end))
      × ((place : ℕ) → place < end.places → (entry : Entry) × (entry_at log thread place ≡ Some (Known entry)))
      × ((place : ℕ) → end.places ≤ place → entry_at log thread place ≡ None)
  pub others : (thread : ℕ) → threads ≤ thread → (end_at log thread ≡ None) × ((place : ℕ) → entry_at log thread place ≡ None)
