use Rattle.std.proofs.Common.{◌≡◌, ◌≤◌, ◌-◌}
use Rattle.event_core.specs.World.{world_of}
use Rattle.replay_session.specs.Events.{EndsByEvent}
use Rattle.replay_session.proofs.EventTurns.{Counted}
use Rattle.replay_session.proofs.events.go_events.Given as goal

abbrev pub invariant-loop-events : goal.invariant-loop-events
invariant-loop-events g l = record {
  at : Counted g.S.ObjectSpace.meaning g.M.Machine.code (g.L.ReadLog.log l.fn.replay.log) l.thread l.made l.events (world_of l.fn.replay.world) (world_of l.replay.world);
  few : l.events ≤ l.most;
  ends : l.events ≡ l.most → EndsByEvent g.S.ObjectSpace.meaning g.M.Machine.code (g.L.ReadLog.log l.fn.replay.log) l.thread (world_of l.fn.replay.world) l.made;
  short : l.made ≤ 16000000000;
  reads : g.L.ReadLog.reads l.replay.log l.reader;
  log : l.replay.log ≡ l.fn.replay.log;
  opens : l.replay.opens ≡ l.fn.replay.opens;
}

abbrev pub decreases-loop-events : goal.decreases-loop-events
decreases-loop-events g l = 16000000000 - l.made
