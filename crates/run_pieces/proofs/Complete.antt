-- Complete logs, as a gathered log and the laws of replay see them.
use Rattle.std.proofs.Common.{ℕ}
use Rattle.replica.specs.declared.log.Log.{Log as GatheredLog}
use Rattle.replica.specs.Counts.{IsComplete}
use Rattle.replay_laws.specs.Log.{IsCompleteLog}
use Rattle.run_pieces.specs.Joined.{gathered_log}
use Rattle.run_pieces.specs.Laws.{WholeLogsAreComplete}

complete_as_replayed : (threads : ℕ) (gathered : GatheredLog) → IsComplete threads gathered → IsCompleteLog threads (gathered_log gathered)
complete_as_replayed threads gathered h = record {
  threads = λ t lt. let whole = h.whole t lt in record { end = whole.0; is_known = whole.1; entries = whole.2; no_more = whole.3 };
  no_other_end = λ t past. (h.others t past).0;
  no_other_entry = λ t p past. (h.others t past).1 p;
}

complete_as_gathered : (threads : ℕ) (gathered : GatheredLog) → IsCompleteLog threads (gathered_log gathered) → IsComplete threads gathered
complete_as_gathered threads gathered h = record {
  whole = λ t lt. let thread = h.threads t lt in (thread.end, thread.is_known, thread.entries, thread.no_more);
  others = λ t past. (h.no_other_end t past, λ p. h.no_other_entry t p past);
}

pub whole_logs_are_complete : WholeLogsAreComplete
whole_logs_are_complete threads gathered = (complete_as_replayed threads gathered, complete_as_gathered threads gathered)
