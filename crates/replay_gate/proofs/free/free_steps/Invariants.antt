-- So many steps are left, and free of the breaks so far.
use Rattle.std.proofs.Common.{◌≡◌, ℕ, ◌<◌, ◌≤◌, Some, slice_get}
use Rattle.event_core.specs.World.{world_of}
use Rattle.replay_gate.specs.Local.{steps_left_of}
use Rattle.replay_gate.specs.declared.breaks.Break.{Break}
use Rattle.replay_gate.specs.Free.{IsFreeOf}
use Rattle.replay_gate.proofs.free.free_steps.Given as goal

abbrev pub invariant-loop-one : goal.invariant-loop-one
invariant-loop-one g l = record {
  few : l.free ≤ steps_left_of g.M.Machine.code ((g.L.ReadLog.log l.replay.log).end l.thread) (slice_get (world_of l.replay.world).threads l.thread);
  clear : (j : ℕ) (b : Break) → j < l.one-index → slice_get l.breaks j ≡ Some b → IsFreeOf l.thread l.made l.free b;
}
