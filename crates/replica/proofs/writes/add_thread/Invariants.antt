-- The writes so far and those of the items that are left are all.
use Rattle.std.proofs.Common.{◌≡◌, ◌++◌}
use Rattle.std.specs.List.{flat_map}
use Rattle.replica.specs.Log.{items_at}
use Rattle.replica.specs.Divergence.{writes_of_item}
use Rattle.replica.proofs.writes.add_thread.Given as goal

abbrev pub invariant-loop-place : goal.invariant-loop-place
invariant-loop-place l = l.writes.items ++ flat_map (writes_of_item l.thread) l.place-iterator ≡ l.initial.writes.items ++ flat_map (writes_of_item l.thread) (items_at l.log l.thread)
