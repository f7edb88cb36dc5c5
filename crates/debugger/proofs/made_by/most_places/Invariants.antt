-- none of the threads so far made more
use Rattle.std.proofs.Common.{◌≡◌, ◌≤◌, ◌<◌, ℕ, Some, slice_get}
use Rattle.event_core.specs.Threads.{ThreadAt}
use Rattle.event_core.specs.World.{world_of}
use Rattle.debugger.proofs.made_by.most_places.Given as goal

abbrev pub invariant-loop-number : goal.invariant-loop-number
invariant-loop-number g l = (t : ℕ) → t < l.number → (at : ThreadAt _) → slice_get (world_of l.world).threads t ≡ Some at → at.places ≤ l.most
