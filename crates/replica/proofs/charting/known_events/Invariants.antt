-- The events so far and those of the threads that are left are all.
use Rattle.std.proofs.Common.{◌≡◌, ◌++◌, ◌-◌}
use Rattle.std.specs.List.{flat_map, range_with_len}
use Rattle.replica.specs.Log.{items_at}
use Rattle.replica.specs.Chart.{known_of_item, known_events}
use Rattle.replica.proofs.charting.known_events.Given as goal

abbrev pub invariant-loop-number : goal.invariant-loop-number
invariant-loop-number l = l.events.items ++ flat_map (λ t. flat_map (known_of_item t) (items_at l.log t)) (range_with_len l.number (16 - l.number)) ≡ known_events l.log
