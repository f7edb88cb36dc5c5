use Rattle.std.proofs.Common.{◌≡◌}
use Rattle.event_core.specs.World.{world_of}
use Rattle.replay_session.specs.declared.legs.Leg.TheVariants as leg
use Rattle.replay_session.specs.Reverse.{StepOfLeg, IsLastHit}
use Rattle.replay_session.specs.Ways.{thread_world}
use Rattle.replay_session.proofs.reverse.test_thread.Given as goal

abbrev pub invariant-loop-made : goal.invariant-loop-made
invariant-loop-made g l = record {
  at : world_of l.replay.world ≡ thread_world g.S.ObjectSpace.meaning g.M.Machine.code (g.L.ReadLog.log l.fn.replay.log) (world_of l.fn.replay.world) l.thread l.made;
  last : IsLastHit g.S.ObjectSpace.meaning g.M.Machine.code (g.L.ReadLog.log l.fn.replay.log) l.breaks (g.T.Test.holds l.test) (StepOfLeg g.S.ObjectSpace.meaning g.M.Machine.code (g.L.ReadLog.log l.fn.replay.log) (leg.Thread l.thread l.steps) (world_of l.fn.replay.world)) l.made l.last;
  reads : g.L.ReadLog.reads l.replay.log l.reader;
  log : l.replay.log ≡ l.fn.replay.log;
  opens : l.replay.opens ≡ l.fn.replay.opens;
}
