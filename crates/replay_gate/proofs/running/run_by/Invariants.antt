-- The turns of the order so far; then the rounds, and in them the turns of the threads so far.
use Rattle.std.proofs.Common.{◌≡◌, ◌+◌, ◌-◌, ◌*◌, cond, length}
use Rattle.event_core.specs.Threads.{all_steps}
use Rattle.event_core.specs.World.{world_of}
use Rattle.replay_gate.specs.Stops.{IsBehind}
use Rattle.replay_gate.specs.Free.{AreFree}
use Rattle.replay_gate.specs.Known.{AreKnown}
use Rattle.replay_gate.specs.Notes.{HasNoted, notes}
use Rattle.replay_gate.proofs.BreakRoundsOn.{NotedRound}
use Rattle.replay_gate.proofs.running.run_by.Given as goal

abbrev pub invariant-loop-thread : goal.invariant-loop-thread
invariant-loop-thread g l = record {
  behind : IsBehind g.S.ObjectSpace.meaning g.M.Machine.code (g.L.ReadLog.log l.fn.replay.log) (world_of l.fn.replay.world) l.order l.breaks l.thread-index (world_of l.replay.world);
  noted : HasNoted g.W.Watch.asked g.W.Watch.whole g.W.Watch.notes l.fn.watch l.watch
      (notes g.S.ObjectSpace.meaning g.M.Machine.code (g.W.Watch.note (g.W.Watch.asked l.fn.watch)) (g.L.ReadLog.log l.fn.replay.log) (world_of l.fn.replay.world) l.order l.thread-index);
  free : AreFree g.M.Machine.code (g.L.ReadLog.log l.fn.replay.log) (world_of l.replay.world) l.breaks l.turns.free;
  known : AreKnown g.S.ObjectSpace.meaning g.M.Machine.code (g.L.ReadLog.log l.fn.replay.log) (world_of l.replay.world) l.turns.all;
  reads : g.L.ReadLog.reads l.replay.log l.reader;
  log : l.replay.log ≡ l.fn.replay.log;
  opens : l.replay.opens ≡ l.fn.replay.opens;
}

abbrev pub invariant-loop-made : goal.invariant-loop-made
invariant-loop-made g l = record {
  round : NotedRound g.S.ObjectSpace.meaning g.M.Machine.code (g.L.ReadLog.log l.fn.replay.log) (world_of l.fn.replay.world) l.order l.breaks
      (g.W.Watch.note (g.W.Watch.asked l.fn.watch)) (HasNoted g.W.Watch.asked g.W.Watch.whole g.W.Watch.notes l.fn.watch l.watch) l.next l.made l.held (world_of l.replay.world);
  count : l.count ≡ length (world_of l.fn.replay.world).threads;
  free : AreFree g.M.Machine.code (g.L.ReadLog.log l.fn.replay.log) (world_of l.replay.world) l.breaks l.turns.free;
  known : AreKnown g.S.ObjectSpace.meaning g.M.Machine.code (g.L.ReadLog.log l.fn.replay.log) (world_of l.replay.world) l.turns.all;
  reads : g.L.ReadLog.reads l.replay.log l.reader;
  log : l.replay.log ≡ l.fn.replay.log;
  opens : l.replay.opens ≡ l.fn.replay.opens;
}

abbrev pub decreases-loop-made : goal.decreases-loop-made
decreases-loop-made g l = 34 * (16000000000 - all_steps g.M.Machine.code (world_of l.replay.world).threads) + cond l.made 17 0 + (l.count - l.next)
