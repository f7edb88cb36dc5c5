use Rattle.std.proofs.Common.{◌≡◌, ◌+◌, ◌-◌, ◌<◌, ◌≤◌, ℕ, length, vec_capacity}
use Rattle.waiter_queues.specs.Made.{all_queues}
use Rattle.waiter_queues.proofs.queues.make_up_to.Given as goal

abbrev pub invariant-loop-made : goal.invariant-loop-made
invariant-loop-made l = record {
  room : vec_capacity l.initial.made ≤ vec_capacity l.made;
  few : (count : ℕ) → l.block < count → length l.initial.made.items ≤ count → length l.made.items ≤ count;
  same : (count : ℕ) → l.block < count → length l.initial.made.items ≤ count → all_queues count l.made.items ≡ all_queues count l.initial.made.items;
}

abbrev pub decreases-loop-made : goal.decreases-loop-made
decreases-loop-made l = l.block + 1 - length l.made.items
