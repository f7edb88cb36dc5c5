-- The writes so far and those of the touches that are left are all.
use Rattle.std.proofs.Common.{◌≡◌, ◌++◌, drop}
use Rattle.std.specs.List.{flat_map}
use Rattle.replica.specs.Divergence.{write_of}
use Rattle.replica.proofs.writes.add_entry.Given as goal

abbrev pub invariant-loop-found : goal.invariant-loop-found
invariant-loop-found l = l.writes.items ++ flat_map (write_of l.at.thread l.at.place) (drop l.found-index l.found-items) ≡ l.initial.writes.items ++ flat_map (write_of l.at.thread l.at.place) l.found-items
