use Rattle.std.proofs.Common.{◌≡◌, ◌≤◌, take, vec_capacity}
use Rattle.waiter_queues.proofs.queues.copied_queues.Given as goal

abbrev pub invariant-loop-queue : goal.invariant-loop-queue
invariant-loop-queue l = record {
  copied : l.copy.items ≡ take l.queue-index l.queues;
  room : l.room ≤ vec_capacity l.copy;
}
