-- What a log has at each place of each thread, and as each thread's end.
use Rattle.std.specs.Prelude.{ℕ, List, [], Option, Some, None, slice_get}
use Rattle.std.specs.Ordering.{nat_cmp}
use Rattle.wasm_types.specs.declared.key.RunKey.{RunKey}
use Rattle.rw_objects.specs.declared.entry.Entry.{Entry}
use Rattle.log_pieces.specs.declared.end.End.{End}
use Rattle.log_pieces.specs.declared.flat.Flat.{Flat}
use Rattle.log_pieces.specs.Keyed.{value_at}
use Rattle.replica.specs.declared.thread_log.ThreadLog.{ThreadLog}
use Rattle.replica.specs.declared.log.Log.{Log}
use Rattle.replica.specs.declared.replica.Replica.{Replica}

abbrev pub key_of : Log → RunKey
key_of log = log.key

-- what a thread's log has at a place, and as its end
abbrev pub entry_of : Option ThreadLog → ℕ → Option (Flat Entry)
entry_of None place = None
entry_of (Some thread) place = value_at nat_cmp thread.entries place

abbrev pub end_of : Option ThreadLog → Option (Flat End)
end_of None = None
end_of (Some thread) = thread.end

-- the item that is claimed at a place of a thread, or a clash
abbrev pub entry_at : Log → ℕ → ℕ → Option (Flat Entry)
entry_at log thread place = entry_of (slice_get log.threads thread) place

-- the thread's end that is claimed, or a clash
abbrev pub end_at : Log → ℕ → Option (Flat End)
end_at log thread = end_of (slice_get log.threads thread)

-- the items that are claimed of a thread's entries, with their places, by rising place
abbrev pub items_of : Option ThreadLog → List (ℕ × Flat Entry)
items_of None = []
items_of (Some thread) = thread.entries

abbrev pub items_at : Log → ℕ → List (ℕ × Flat Entry)
items_at log thread = items_of (slice_get log.threads thread)

-- the log of a replica
abbrev pub log_of : Replica → Log
log_of replica = replica.log
