use Rattle.std.proofs.Common.{◌≡◌, drop}
use Rattle.event_core.specs.World.{WorldAt, world_of}
use Rattle.replay_session.specs.Reverse.{StepOfWay, IsLastHit}
use Rattle.replay_session.specs.Ways.{WayLeads}
use Rattle.replay_session.proofs.StepsOfWays.{GoesThrough}
use Rattle.replay_session.proofs.reverse.last_hit.Given as goal

abbrev pub invariant-loop-leg : goal.invariant-loop-leg
invariant-loop-leg g l = record {
  rest : ∥ ((v : WorldAt _ _ _) × WayLeads g.S.ObjectSpace.meaning g.M.Machine.code (g.L.ReadLog.log l.fn.replay.log) (drop l.leg-index l.legs) (world_of l.replay.world) v) ∥₁;
  through : GoesThrough g.S.ObjectSpace.meaning g.M.Machine.code (g.L.ReadLog.log l.fn.replay.log) l.legs (world_of l.fn.replay.world) l.before (drop l.leg-index l.legs) (world_of l.replay.world);
  last : IsLastHit g.S.ObjectSpace.meaning g.M.Machine.code (g.L.ReadLog.log l.fn.replay.log) l.breaks (g.T.Test.holds l.test) (StepOfWay g.S.ObjectSpace.meaning g.M.Machine.code (g.L.ReadLog.log l.fn.replay.log) l.legs (world_of l.fn.replay.world)) l.before l.last;
  log : l.replay.log ≡ l.fn.replay.log;
  opens : l.replay.opens ≡ l.fn.replay.opens;
}
