-- The writes so far and those of the threads that are left are all.
use Rattle.std.proofs.Common.{◌≡◌, ◌++◌, ◌-◌}
use Rattle.std.specs.List.{flat_map, range_with_len}
use Rattle.replica.specs.Log.{items_at}
use Rattle.replica.specs.Divergence.{writes_of_item, writes}
use Rattle.replica.proofs.finding.all_writes.Given as goal

abbrev pub invariant-loop-thread : goal.invariant-loop-thread
invariant-loop-thread l = l.found.items ++ flat_map (λ t. flat_map (writes_of_item t) (items_at l.log t)) (range_with_len l.thread (16 - l.thread)) ≡ writes l.log
