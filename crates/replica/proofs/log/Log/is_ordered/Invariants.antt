-- The items of each thread so far stand by rising place.
use Rattle.std.proofs.Common.{◌≡◌, ℕ, ◌<◌}
use Rattle.std.specs.Prelude.{Some, slice_get}
use Rattle.std.specs.Ordering.{nat_cmp}
use Rattle.std.specs.List.Sorted.{IsStrictlySortedBy}
use Rattle.std.specs.Map.{keys_of}
use Rattle.replica.specs.declared.thread_log.ThreadLog.{ThreadLog}
use Rattle.replica.proofs.log.Log.is_ordered.Given as goal

abbrev pub invariant-loop-log : goal.invariant-loop-log
invariant-loop-log l = (i : ℕ) (thread : ThreadLog) → i < l.log-index → slice_get l.log-items i ≡ Some thread → IsStrictlySortedBy nat_cmp (keys_of thread.entries)
