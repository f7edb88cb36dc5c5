use Rattle.std.proofs.Common.{◌≡◌, ◌+◌, ◌≤◌, ◌++◌, length, drop}
use Rattle.block_objects.specs.Queues.{chosen, left_waiting}
use Rattle.waiter_queues.proofs.queue.wake.Given as goal

abbrev pub invariant-loop-waiter : goal.invariant-loop-waiter
invariant-loop-waiter l = record {
  waiting : l.waiting.items ++ left_waiting l.address l.left (drop l.waiter-index l.waiters) ≡ left_waiting l.address l.count l.waiters;
  woken : l.woken.items ++ chosen l.address l.left (drop l.waiter-index l.waiters)
      ≡ l.initial.woken.items ++ chosen l.address l.count l.waiters;
  counted : l.count + length (chosen l.address l.left (drop l.waiter-index l.waiters)) ≡ l.left + length (chosen l.address l.count l.waiters);
  few_waiting : length l.waiting.items ≤ l.waiter-index;
  few_woken : length l.woken.items ≤ length l.initial.woken.items + l.waiter-index;
  left : l.left ≤ l.count;
}
