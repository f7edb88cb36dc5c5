-- Readers of a gathered log: what they read, and what they hold.
use Rattle.std.specs.Prelude.{◌≡◌, ℕ, List, Option, Some, None, slice_get}
use Rattle.std.specs.Ordering.{nat_cmp}
use Rattle.rw_objects.specs.declared.entry.Entry.{Entry}
use Rattle.log_pieces.specs.declared.flat.Flat.{Flat}
use Rattle.log_pieces.specs.Keyed.{value_at}
use Rattle.replica.specs.declared.log.Log.{Log as GatheredLog}
use Rattle.replica.specs.Log.{entry_at}
use Rattle.wasm_replay.specs.declared.reader.ThreadReader.{ThreadReader}

-- the reader of a thread, if there is one, reads what the log has of the thread
abbrev pub ReadsThread : GatheredLog → ℕ → Option ThreadReader → Type 0
ReadsThread log thread None = Unit {0}
ReadsThread log thread (Some reader) = (place : ℕ) → value_at nat_cmp reader.cursor place ≡ entry_at log thread place

-- the item that it holds
abbrev pub thread_holds : Option ThreadReader → Option (Flat Entry)
thread_holds None = None
thread_holds (Some reader) = reader.item

-- each thread's reader reads what the log has of the thread
abbrev pub ReadsLog : GatheredLog → List (Option ThreadReader) → Type 0
ReadsLog log readers = (thread : ℕ) (reader : Option ThreadReader) → slice_get readers thread ≡ Some reader → ReadsThread log thread reader

-- the item that the reader of a thread of that number holds
abbrev pub slot_holds : Option (Option ThreadReader) → Option (Flat Entry)
slot_holds None = None
slot_holds (Some reader) = thread_holds reader

abbrev pub log_holds : List (Option ThreadReader) → ℕ → Option (Flat Entry)
log_holds readers thread = slot_holds (slice_get readers thread)
