use Rattle.std.proofs.Common.{◌≡◌, ◌<◌, ℕ, length}
use Rattle.std.specs.Prelude.{slice_get}
use Rattle.thread_plan.specs.Globals.{begins_with}
use Rattle.thread_plan.specs.Hints.{thread_code}
use Rattle.thread_plan.specs.Starts.{begins_at}
use Rattle.thread_plan.proofs.starts.starts_of.Given as goal

-- the threads so far
abbrev pub invariant-loop-thread : goal.invariant-loop-thread
invariant-loop-thread l = record {
  count : length l.starts.items ≡ l.thread;
  begin : (g t : ℕ) → g < length l.«module».globals → t < l.thread → begins_at g (slice_get l.starts.items t) ≡ begins_with g (thread_code l.«module» (slice_get l.plan.threads t));
}
