-- A log joined with another one.
use Rattle.std.specs.Prelude.{◌≡◌, ℕ, ◌==◌, nat_lt, if◌then◌else◌, List, take, Option, Some, None, slice_get}
use Rattle.std.specs.Ordering.{nat_cmp}
use Rattle.rw_objects.specs.declared.entry.Entry.{Entry}
use Rattle.log_pieces.specs.declared.end.End.{End}
use Rattle.log_pieces.specs.declared.flat.Flat.{Flat}
use Rattle.log_pieces.specs.Flat.{flat_joined}
use Rattle.log_pieces.specs.Keyed.{value_at, option_joined}
use Rattle.replica.specs.declared.thread_log.ThreadLog.{ThreadLog}
use Rattle.replica.specs.declared.log.Log.{Log}
use Rattle.replica.specs.Log.{key_of, entry_at, end_at}
use Rattle.replica.specs.Items.{entry_eq, end_eq}

-- the old log joined, item by item, with another
pub record IsMerged (old other new : Log) : Type 0 where
  pub key : key_of new ≡ key_of old
  pub entries : (thread place : ℕ) → entry_at new thread place ≡ option_joined (flat_joined entry_eq) (entry_at old thread place) (entry_at other thread place)
  pub ends : (thread : ℕ) → end_at new thread ≡ option_joined (flat_joined end_eq) (end_at old thread) (end_at other thread)

-- what the first so many items of a thread have at a place
abbrev pub first_of : ℕ → Option ThreadLog → ℕ → Option (Flat Entry)
first_of count None place = None
first_of count (Some thread) place = value_at nat_cmp (take count thread.entries) place

-- of a log's items by thread and place: those of the threads before one, and the first so many of that one
abbrev pub first_entry : ℕ → ℕ → Log → ℕ → ℕ → Option (Flat Entry)
first_entry owner count log thread place =
    if nat_lt thread owner then entry_at log thread place
    else if thread == owner then first_of count (slice_get log.threads thread) place
    else None

-- the old log joined with the first of the other's items, none of which is an end
pub record IsMergedInPart (old other : Log) (owner count : ℕ) (new : Log) : Type 0 where
  pub key : key_of new ≡ key_of old
  pub entries : (thread place : ℕ) → entry_at new thread place ≡ option_joined (flat_joined entry_eq) (entry_at old thread place) (first_entry owner count other thread place)
  pub ends : (thread : ℕ) → end_at new thread ≡ end_at old thread

-- the old log joined with these entries of one thread
pub record IsThreadMerged (old : Log) (owner : ℕ) (more : List (ℕ × Flat Entry)) (new : Log) : Type 0 where
  pub key : key_of new ≡ key_of old
  pub entries : (thread place : ℕ) → entry_at new thread place ≡ option_joined (flat_joined entry_eq) (entry_at old thread place) (if thread == owner then value_at nat_cmp more place else None)
  pub ends : (thread : ℕ) → end_at new thread ≡ end_at old thread

-- the old log joined with what is claimed of one thread's end
pub record IsEndMerged (old : Log) (owner : ℕ) (end : Option (Flat End)) (new : Log) : Type 0 where
  pub key : key_of new ≡ key_of old
  pub entries : (thread place : ℕ) → entry_at new thread place ≡ entry_at old thread place
  pub ends : (thread : ℕ) → end_at new thread ≡ option_joined (flat_joined end_eq) (end_at old thread) (if thread == owner then end else None)

-- the old log joined with all entries of another, but with no end
pub record AreEntriesMerged (old other new : Log) : Type 0 where
  pub key : key_of new ≡ key_of old
  pub entries : (thread place : ℕ) → entry_at new thread place ≡ option_joined (flat_joined entry_eq) (entry_at old thread place) (entry_at other thread place)
  pub ends : (thread : ℕ) → end_at new thread ≡ end_at old thread

-- the old log joined with all ends of another, but with no entry
pub record AreEndsMerged (old other new : Log) : Type 0 where
  pub key : key_of new ≡ key_of old
  pub entries : (thread place : ℕ) → entry_at new thread place ≡ entry_at old thread place
  pub ends : (thread : ℕ) → end_at new thread ≡ option_joined (flat_joined end_eq) (end_at old thread) (end_at other thread)
