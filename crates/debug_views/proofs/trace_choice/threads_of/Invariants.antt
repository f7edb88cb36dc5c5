-- The threads so far are told.
use Rattle.std.proofs.Common.{◌≡◌, ℕ, ◌<◌, Some, slice_get, length}
use Rattle.debug_views.specs.Trace.{is_of_threads}
use Rattle.debug_views.proofs.trace_choice.threads_of.Given as goal

abbrev pub invariant-loop-thread : goal.invariant-loop-thread
invariant-loop-thread l = record {
  long : length l.threads ≡ 16;
  told : (t : ℕ) → t < l.thread → slice_get l.threads t ≡ Some (is_of_threads l.only t);
}
