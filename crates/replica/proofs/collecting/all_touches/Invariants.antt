-- The touches so far and those of the threads that are left are all.
use Rattle.std.proofs.Common.{◌≡◌, ◌++◌, ◌-◌}
use Rattle.std.specs.List.{flat_map, range_with_len}
use Rattle.replica.specs.Log.{items_at}
use Rattle.replica.specs.Touched.{touches_of_item, known_touches}
use Rattle.replica.proofs.collecting.all_touches.Given as goal

abbrev pub invariant-loop-number : goal.invariant-loop-number
invariant-loop-number l = l.found.items ++ flat_map (λ t. flat_map (touches_of_item t) (items_at l.log t)) (range_with_len l.number (16 - l.number)) ≡ known_touches l.log
