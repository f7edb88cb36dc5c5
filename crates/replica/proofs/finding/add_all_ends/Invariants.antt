-- The clashes so far and those of the threads that are left are all.
use Rattle.std.proofs.Common.{◌≡◌, ◌++◌, ◌-◌}
use Rattle.std.specs.List.{flat_map, range_with_len}
use Rattle.replica.specs.Log.{end_at}
use Rattle.replica.specs.Divergence.{clash_of_end, end_clashes}
use Rattle.replica.proofs.finding.add_all_ends.Given as goal

abbrev pub invariant-loop-thread : goal.invariant-loop-thread
invariant-loop-thread l = l.found.items ++ flat_map (λ t. clash_of_end t (end_at l.log t)) (range_with_len l.thread (16 - l.thread)) ≡ l.initial.found.items ++ end_clashes l.log
