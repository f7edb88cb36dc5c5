-- The threads so far stand behind the rounds, the others where they stood.
use Rattle.std.proofs.Common.{◌≡◌, ℕ, ◌+◌, ◌<◌, ◌≤◌, length, drop, Some, slice_get}
use Rattle.std.specs.Vec.Iter.{into_iter_items, into_iter_len}
use Rattle.event_core.specs.World.{world_of}
use Rattle.event_core.specs.Threads.{ThreadAt}
use Rattle.replay_gate.specs.Leads.{Leads}
use Rattle.replay_gate.specs.LocalRounds.{RoundsOf}
use Rattle.replay_gate.proofs.looking.put.Given as goal

abbrev pub invariant-loop-ahead : goal.invariant-loop-ahead
invariant-loop-ahead g l = record {
  rest : into_iter_items l.ahead-iterator ≡ drop (length l.yielded) l.fn.aheads.items;
  left : into_iter_len l.ahead-iterator + length l.yielded ≡ length l.fn.aheads.items;
  thread : l.thread ≡ length l.yielded;
  memory : (world_of l.world).memory ≡ (world_of l.fn.world).memory;
  len : length (world_of l.world).threads ≡ length (world_of l.fn.world).threads;
  behind : (t : ℕ) (th after : ThreadAt _) → t < l.thread → slice_get (world_of l.fn.world).threads t ≡ Some th → slice_get (world_of l.world).threads t ≡ Some after → RoundsOf g.S.ObjectSpace.meaning g.M.Machine.code (g.L.ReadLog.log l.log) l.rounds (world_of l.fn.world) t th after;
  before : (t : ℕ) → l.thread ≤ t → slice_get (world_of l.world).threads t ≡ slice_get (world_of l.fn.world).threads t;
  leads : Leads g.S.ObjectSpace.meaning g.M.Machine.code (g.L.ReadLog.log l.log) (world_of l.fn.world) (world_of l.world);
}
