-- The touches so far and those that are left are all.
use Rattle.std.proofs.Common.{◌≡◌, ◌++◌, drop, map}
use Rattle.replica.specs.Touched.{touch_of}
use Rattle.replica.proofs.collecting.add_entry.Given as goal

abbrev pub invariant-loop-found : goal.invariant-loop-found
invariant-loop-found l = l.touches.items ++ map (touch_of l.thread l.place) (drop l.found-index l.found-items) ≡ l.initial.touches.items ++ map (touch_of l.thread l.place) l.found-items
