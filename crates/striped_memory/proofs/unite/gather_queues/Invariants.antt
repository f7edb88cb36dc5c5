use Rattle.std.proofs.Common.{◌≡◌, ℕ, ◌<◌, length}
use Rattle.waiter_queues.specs.Shared.{queue_at}
use Rattle.striped_memory.specs.Quarters.{dealt}
use Rattle.striped_memory.proofs.unite.gather_queues.Given as goal

abbrev pub invariant-loop-index : goal.invariant-loop-index
invariant-loop-index l = record {
  long : length l.queues ≡ l.count;
  same : (k : ℕ) → k < l.index → queue_at l.queues k ≡ dealt (queue_at l.a) (queue_at l.b) (queue_at l.c) (queue_at l.d) k;
}
