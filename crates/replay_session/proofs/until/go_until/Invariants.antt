use Rattle.std.proofs.Common.{◌≡◌, ◌≤◌, ◌-◌}
use Rattle.event_core.specs.World.{world_of}
use Rattle.replay_session.specs.Until.{NoneHolds}
use Rattle.replay_session.specs.Ways.{ThreadLeads}
use Rattle.replay_session.proofs.until.go_until.Given as goal

abbrev pub invariant-loop-made : goal.invariant-loop-made
invariant-loop-made g l = record {
  leads : ThreadLeads g.S.ObjectSpace.meaning g.M.Machine.code (g.L.ReadLog.log l.fn.replay.log) l.thread l.made (world_of l.fn.replay.world) (world_of l.replay.world);
  none : NoneHolds g.S.ObjectSpace.meaning g.M.Machine.code (g.L.ReadLog.log l.fn.replay.log) (g.T.Test.holds l.test) l.thread (world_of l.fn.replay.world) l.made;
  short : l.made ≤ 16000000000;
  reads : g.L.ReadLog.reads l.replay.log l.reader;
  log : l.replay.log ≡ l.fn.replay.log;
  opens : l.replay.opens ≡ l.fn.replay.opens;
}

abbrev pub decreases-loop-made : goal.decreases-loop-made
decreases-loop-made g l = 16000000000 - l.made
