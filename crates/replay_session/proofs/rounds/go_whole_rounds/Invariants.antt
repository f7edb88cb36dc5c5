use Rattle.std.proofs.Common.{◌≡◌, ◌-◌, ◌≤◌, length}
use Rattle.event_core.specs.World.{world_of}
use Rattle.replay_session.specs.Rounds.{RoundsGo}
use Rattle.replay_session.proofs.rounds.go_whole_rounds.Given as goal

abbrev pub invariant-loop-made : goal.invariant-loop-made
invariant-loop-made g l = record {
  few : l.made ≤ l.most;
  rounds : RoundsGo g.S.ObjectSpace.meaning g.M.Machine.code (g.L.ReadLog.log l.fn.replay.log) l.made (world_of l.fn.replay.world) (world_of l.replay.world);
  count : l.count ≡ length (world_of l.fn.replay.world).threads;
  reads : g.L.ReadLog.reads l.replay.log l.reader;
  log : l.replay.log ≡ l.fn.replay.log;
  opens : l.replay.opens ≡ l.fn.replay.opens;
}

abbrev pub decreases-loop-made : goal.decreases-loop-made
decreases-loop-made g l = l.most - l.made
