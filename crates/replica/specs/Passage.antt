-- Orders of the known entries of a log that the versions which they met allow.
use Rattle.std.specs.Prelude.{◌≡◌, ℕ, ◌^◌, ◌<◌, ◌==◌, true, List, [], ◌∷◌, ◌++◌, count_by, Some}
use Rattle.std.specs.List.{flat_map}
use Rattle.wasm_types.specs.declared.sizes.TheConstants.{MOST_THREADS}
use Rattle.rw_objects.specs.declared.count.Count.{Count}
use Rattle.rw_objects.specs.declared.touch.Found.{Found}
use Rattle.rw_objects.specs.Counts.{no_count}
use Rattle.log_pieces.specs.declared.flat.Flat.TheVariants.{Known}
use Rattle.replica.specs.declared.log.Log.{Log}
use Rattle.replica.specs.Log.{entry_at}
use Rattle.replica.specs.declared.passage.EntryRow.{EntryRow}
use Rattle.replica.specs.Counted.{count_behind, is_open}

-- the touches of rows
abbrev pub found_in : List EntryRow → List Found
found_in rows = flat_map (λ r. r.entry.found) rows

-- the version and the read total of each object behind rows
abbrev pub counts_behind : List EntryRow → ℕ → Count
counts_behind rows object = count_behind object (found_in rows) no_count

-- how many rows a thread has
abbrev pub places_behind : List EntryRow → ℕ → ℕ
places_behind rows thread = count_by (λ r. r.thread == thread) rows

-- A row is let pass behind rows: it is the known entry at the next place of its thread, and each object that it touched
-- has the version that it found, and for a write as many reads of it.
pub record Passes (log : Log) (before : List EntryRow) (row : EntryRow) : Type 0 where
  pub is_known : entry_at log row.thread row.place ≡ Some (Known row.entry)
  pub is_next : row.place ≡ places_behind before row.thread
  pub opens : is_open row.entry.found (counts_behind before) ≡ true

-- each of the rows is let pass behind the ones in front of it
abbrev pub IsPassage : Log → List EntryRow → List EntryRow → Type 0
IsPassage log before [] = Unit {0}
IsPassage log before (row ∷ rows) = Passes log before row × IsPassage log (before ++ row ∷ []) rows

-- no row of that thread is let pass behind these; places are below 2 ^ 32
abbrev pub IsStuck : Log → List EntryRow → ℕ → Type 0
IsStuck log rows thread = (row : EntryRow) → row.thread ≡ thread → row.place < 2 ^ 32 → Passes log rows row → ⊥

-- no row is let pass behind these
abbrev pub IsFull : Log → List EntryRow → Type 0
IsFull log rows = (thread : ℕ) → thread < MOST_THREADS → IsStuck log rows thread
