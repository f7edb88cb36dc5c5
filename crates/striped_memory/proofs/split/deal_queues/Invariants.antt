use Rattle.std.proofs.Common.{◌≡◌, ℕ, ◌+◌, ◌*◌, ◌<◌, length}
use Rattle.waiter_queues.specs.Shared.{queue_at}
use Rattle.striped_memory.proofs.split.deal_queues.Given as goal

abbrev pub invariant-loop-j : goal.invariant-loop-j
invariant-loop-j l = record {
  long : length l.dealt ≡ l.count;
  same : (k : ℕ) → k < l.j → queue_at l.dealt k ≡ queue_at l.queues (4 * k + l.row);
}
