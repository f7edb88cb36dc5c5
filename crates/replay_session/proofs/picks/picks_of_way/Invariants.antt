use Rattle.std.proofs.Common.{◌≡◌, drop}
use Rattle.event_core.specs.World.{WorldAt, world_of}
use Rattle.replay_session.specs.Ways.{WayLeads}
use Rattle.replay_session.proofs.PutPicks.{ArePutBefore}
use Rattle.replay_session.proofs.picks.picks_of_way.Given as goal

abbrev pub invariant-loop-leg : goal.invariant-loop-leg
invariant-loop-leg g l = record {
  rest : ∥ ((v : WorldAt _ _ _) × WayLeads g.S.ObjectSpace.meaning g.M.Machine.code (g.L.ReadLog.log l.fn.replay.log) (drop l.leg-index l.legs) (world_of l.replay.world) v) ∥₁;
  on : (v : WorldAt _ _ _) → WayLeads g.S.ObjectSpace.meaning g.M.Machine.code (g.L.ReadLog.log l.fn.replay.log) (drop l.leg-index l.legs) (world_of l.replay.world) v
      → WayLeads g.S.ObjectSpace.meaning g.M.Machine.code (g.L.ReadLog.log l.fn.replay.log) l.legs (world_of l.fn.replay.world) v;
  put : ArePutBefore g.S.ObjectSpace.meaning g.M.Machine.code (g.L.ReadLog.log l.fn.replay.log) l.legs (drop l.leg-index l.legs) l.picks (world_of l.fn.replay.world) (world_of l.replay.world);
  log : l.replay.log ≡ l.fn.replay.log;
}
