use Rattle.std.proofs.Common.{◌≡◌, ◌≤◌, length}
use Rattle.event_core.specs.World.{world_of}
use Rattle.replay_session.specs.Picks.{ArePut}
use Rattle.replay_session.specs.Ways.{thread_world}
use Rattle.replay_session.proofs.picks.pick_thread.Given as goal

abbrev pub invariant-loop-made : goal.invariant-loop-made
invariant-loop-made g l = record {
  at : world_of l.replay.world ≡ thread_world g.S.ObjectSpace.meaning g.M.Machine.code (g.L.ReadLog.log l.fn.replay.log) (world_of l.fn.replay.world) l.thread l._made;
  put : ArePut g.S.ObjectSpace.meaning g.M.Machine.code (g.L.ReadLog.log l.fn.replay.log) l._made l.fn.picks l.picks (world_of l.fn.replay.world) (world_of l.replay.world);
  few : length (world_of l.replay.world).threads ≤ 16;
  reads : g.L.ReadLog.reads l.replay.log l.reader;
  log : l.replay.log ≡ l.fn.replay.log;
  opens : l.replay.opens ≡ l.fn.replay.opens;
}
