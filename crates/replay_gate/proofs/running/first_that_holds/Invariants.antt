-- None of the breaks so far holds.
use Rattle.std.proofs.Common.{◌≡◌, ℕ, ◌<◌, false, Some, slice_get}
use Rattle.event_core.specs.World.{world_of}
use Rattle.replay_gate.specs.declared.breaks.Break.{Break}
use Rattle.replay_gate.specs.Tests.{holds_by}
use Rattle.replay_gate.proofs.running.first_that_holds.Given as goal

abbrev pub invariant-loop-index : goal.invariant-loop-index
invariant-loop-index g l = (j : ℕ) (b : Break) → j < l.index → slice_get l.breaks j ≡ Some b → holds_by g.M.Machine.code b l.thread l.turned l.marks (world_of l.world) ≡ false
