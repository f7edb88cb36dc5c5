-- Each thread so far is as a complete log of that many threads has it.
use Rattle.std.proofs.Common.{◌≡◌, ℕ, ◌<◌}
use Rattle.std.specs.Prelude.{Some, slice_get}
use Rattle.replica.specs.declared.thread_log.ThreadLog.{ThreadLog}
use Rattle.replica.specs.Counts.{IsFitting}
use Rattle.replica.proofs.log.Log.complete.Given as goal

abbrev pub invariant-loop-log : goal.invariant-loop-log
invariant-loop-log l = record {
  thread : l.thread ≡ l.log-index;
  fits : (i : ℕ) (log : ThreadLog) → i < l.log-index → slice_get l.log-items i ≡ Some log → IsFitting l.threads i log;
}
