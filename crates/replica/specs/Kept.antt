-- What is kept beside rows while they are put one behind the other.
use Rattle.std.specs.Prelude.{◌≡◌, ℕ, ◌*◌, ◌^◌, ◌<◌, ◌≤◌, List, ◌++◌, length, Option, Some, None, slice_index_or}
use Rattle.std.specs.BTreeMap as tree
use Rattle.std.specs.Ordering.{nat_cmp}
use Rattle.rw_objects.specs.declared.count.Count.{Count}
use Rattle.rw_objects.specs.Counts.{no_count}
use Rattle.log_pieces.specs.declared.flat.Flat.TheVariants.{Known}
use Rattle.replica.specs.declared.log.Log.{Log}
use Rattle.replica.specs.Log.{entry_at}
use Rattle.replica.specs.declared.object_counts.WideCount.{WideCount}
use Rattle.replica.specs.declared.object_counts.ObjectCounts.{ObjectCounts}
use Rattle.replica.specs.declared.passage.EntryRow.{EntryRow}
use Rattle.replica.specs.declared.passage.Passage.{Passage}
use Rattle.replica.specs.Passage.{counts_behind, places_behind, IsPassage}

abbrev pub count_in : WideCount → Count
count_in c = record { version = c.version; reads = c.reads }

abbrev pub count_if : Option WideCount → Count
count_if None = no_count
count_if (Some c) = count_in c

-- what is kept of an object
abbrev pub counts_in : ObjectCounts → ℕ → Count
counts_in counts object = count_if (tree.get nat_cmp counts.objects object)

-- no number is greater than this
abbrev pub AreFew : ObjectCounts → ℕ → Type 0
AreFew counts most = (object : ℕ) → ((counts_in counts object).version ≤ most) × ((counts_in counts object).reads ≤ most)

-- the counts and the places are those that the rows leave
pub record Keeps (p : Passage) : Type 0 where
  pub counts : (object : ℕ) → counts_in p.counts object ≡ counts_behind p.rows.items object
  pub few : AreFew p.counts (3 * length p.rows.items)
  pub places : (thread : ℕ) → thread < 16 → slice_index_or p.places thread 0 ≡ places_behind p.rows.items thread

-- rows were put behind the others, each let pass
pub record IsLonger (log : Log) (old new : Passage) : Type 0 where
  pub more : List EntryRow
  pub parts : new.rows.items ≡ old.rows.items ++ more
  pub passes : IsPassage log old.rows.items more
  pub keeps : Keeps new

-- ---- the next entry of a thread

-- the row is the known entry at the thread's place
pub record IsNextEntry (log : Log) (places : List ℕ) (thread : ℕ) (row : EntryRow) : Type 0 where
  pub of : row.thread ≡ thread
  pub is_known : entry_at log row.thread row.place ≡ Some (Known row.entry)
  pub is_next : row.place ≡ slice_index_or places thread 0

-- no row is; places are below 2 ^ 32
abbrev pub HasNoNextEntry : Log → List ℕ → ℕ → Type 0
HasNoNextEntry log places thread = (row : EntryRow) → row.place < 2 ^ 32 → IsNextEntry log places thread row → ⊥
