use Rattle.std.proofs.Common.{◌≡◌, ◌≤◌, ◌==◌, ◌&&◌, not, ◌++◌, length, drop}
use Rattle.std.specs.List.{filter}
use Rattle.waiter_queues.proofs.queue.Queue.time_out.Given as goal

abbrev pub invariant-loop-waiter : goal.invariant-loop-waiter
invariant-loop-waiter l = record {
  kept : l.waiting.items ++ filter (λ w. not ((w.thread == l.thread) && (w.address == l.address))) (drop l.waiter-index l.waiter-items)
      ≡ filter (λ w. not ((w.thread == l.thread) && (w.address == l.address))) l.waiter-items;
  few : length l.waiting.items ≤ l.waiter-index;
}
