-- The threads so far are known.
use Rattle.std.proofs.Common.{◌≡◌, ℕ, length, Some, slice_get}
use Rattle.event_core.specs.World.{world_of}
use Rattle.replay_gate.specs.declared.looking.Ahead.{Ahead}
use Rattle.replay_gate.specs.LocalRounds.{IsAhead}
use Rattle.replay_gate.proofs.looking.threads_ahead.Given as goal

abbrev pub invariant-loop-thread : goal.invariant-loop-thread
invariant-loop-thread g l = record {
  len : length l.aheads.items ≡ l.thread;
  each : (t : ℕ) (a : Ahead _) → slice_get l.aheads.items t ≡ Some a → IsAhead g.S.ObjectSpace.meaning g.M.Machine.code g.M.Machine.state (g.L.ReadLog.log l.log) l.rounds (world_of l.world) t a;
}
