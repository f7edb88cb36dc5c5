use Rattle.std.proofs.Common.{◌≡◌, ◌-◌, ◌<◌, ◌≤◌}
use Rattle.event_core.specs.World.{world_of}
use Rattle.replay_session.specs.Rounds.{RoundsGo}
use Rattle.replay_session.specs.Ways.{TurnsLead}
use Rattle.replay_session.proofs.rounds.go_rounds.Given as goal

abbrev pub invariant-loop-missing : goal.invariant-loop-missing
invariant-loop-missing g l = record {
  few : l.missing ≤ l.steps;
  all : l.missing ≡ 0 → TurnsLead g.S.ObjectSpace.meaning g.M.Machine.code (g.L.ReadLog.log l.fn.replay.log) l.steps (world_of l.fn.replay.world) (world_of l.replay.world);
  whole : 0 < l.missing → RoundsGo g.S.ObjectSpace.meaning g.M.Machine.code (g.L.ReadLog.log l.fn.replay.log) (l.steps - l.missing) (world_of l.fn.replay.world) (world_of l.replay.world);
  reads : g.L.ReadLog.reads l.replay.log l.reader;
  log : l.replay.log ≡ l.fn.replay.log;
  opens : l.replay.opens ≡ l.fn.replay.opens;
}

abbrev pub decreases-loop-missing : goal.decreases-loop-missing
decreases-loop-missing g l = l.missing
