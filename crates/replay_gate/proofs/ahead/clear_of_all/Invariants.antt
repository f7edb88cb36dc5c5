use Rattle.std.proofs.Common.{◌≡◌, ℕ, ◌<◌, ◌≤◌, Some, slice_get}
use Rattle.event_core.specs.World.{world_of}
use Rattle.replay_gate.specs.declared.breaks.Break.{Break}
use Rattle.replay_gate.specs.Clear.{IsClear}
use Rattle.replay_gate.proofs.ahead.clear_of_all.Given as goal

abbrev pub invariant-loop-one : goal.invariant-loop-one
invariant-loop-one g l = record {
  few : l.clear ≤ l.most;
  clear : (j : ℕ) (b : Break) → j < l.one-index → slice_get l.breaks j ≡ Some b → IsClear g.M.Machine.code (world_of l.world) l.clear b;
}
