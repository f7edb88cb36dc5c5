use Rattle.std.proofs.Common.{◌≡◌, ◌≤◌, ◌==◌, not, ◌++◌, length, drop}
use Rattle.std.specs.List.{filter}
use Rattle.waiter_queues.proofs.queue.Queue.resume.Given as goal

abbrev pub invariant-loop-other : goal.invariant-loop-other
invariant-loop-other l = record {
  kept : l.woken.items ++ filter (λ t. not (t == l.thread)) (drop l.other-index l.other-items) ≡ filter (λ t. not (t == l.thread)) l.other-items;
  few : length l.woken.items ≤ l.other-index;
}
