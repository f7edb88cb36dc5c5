-- A recorded run as contracts see it, and the log that it is.
use Rattle.std.specs.Prelude.{ℕ, List, slice_get, option_map, option_and_then}
use Rattle.rw_objects.specs.declared.entry.Entry.{Entry}
use Rattle.event_core.specs.End.{RunEnd}
use Rattle.log_pieces.specs.declared.end.End.{End}
use Rattle.replay_laws.specs.Log.{Log, known}

-- a thread's entries, and where it ends
pub record ThreadLogAt : Type 0 where
  pub entries : List Entry
  pub end : End

-- the log of each thread, the end of the run, and how many picks were passed over
pub record RecordedAt : Type 0 where
  pub threads : List ThreadLogAt
  pub end : RunEnd
  pub passed : ℕ

-- the log: each thread's entries by place, and its end
abbrev pub log_of : List ThreadLogAt → Log
log_of threads = record {
  entry = λ t place. known (option_and_then (λ l. slice_get l.entries place) (slice_get threads t));
  end = λ t. known (option_map (λ l. l.end) (slice_get threads t));
}
