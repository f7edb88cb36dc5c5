use Rattle.std.proofs.Common.{◌≡◌, ◌≤◌, ◌-◌}
use Rattle.event_core.specs.World.{world_of}
use Rattle.replay_session.specs.Ways.{ThreadLeads}
use Rattle.replay_session.proofs.threads.go_thread.Given as goal

abbrev pub invariant-loop-made : goal.invariant-loop-made
invariant-loop-made g l = record {
  leads : ThreadLeads g.S.ObjectSpace.meaning g.M.Machine.code (g.L.ReadLog.log l.fn.replay.log) l.thread l.made (world_of l.fn.replay.world) (world_of l.replay.world);
  few : l.made ≤ l.most;
  reads : g.L.ReadLog.reads l.replay.log l.reader;
  log : l.replay.log ≡ l.fn.replay.log;
  opens : l.replay.opens ≡ l.fn.replay.opens;
}

abbrev pub decreases-loop-made : goal.decreases-loop-made
decreases-loop-made g l = l.most - l.made
