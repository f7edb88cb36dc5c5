use Rattle.std.proofs.Common.{◌≡◌}
use Rattle.std.specs.Prelude.{slice_get}
use Rattle.std.specs.List.{filter, range_with_len}
use Rattle.thread_plan.specs.Starts.{begins_at}
use Rattle.thread_plan.proofs.starts.threads_with.Given as goal

-- the threads so far
abbrev pub invariant-loop-thread : goal.invariant-loop-thread
invariant-loop-thread l = l.threads.items ≡ filter (λ t. begins_at l.global (slice_get l.starts t)) (range_with_len 0 l.thread)
