use Rattle.std.proofs.Common.{◌≡◌}
use Rattle.event_core.specs.World.{world_of}
use Rattle.replay_session.proofs.PartByPart.{Between}
use Rattle.replay_session.proofs.run_parts.run_and_keep.Given as goal

abbrev pub invariant-loop-part : goal.invariant-loop-part
invariant-loop-part g l = record {
  between : Between g.S.ObjectSpace.meaning g.M.Machine.code g.met.M.Machine.laws (g.L.ReadLog.log l.fn.replay.log) l.breaks (world_of l.fn.replay.world) (world_of l.replay.world);
  log : l.replay.log ≡ l.fn.replay.log;
  opens : l.replay.opens ≡ l.fn.replay.opens;
  keeps_log : l.keeps.log ≡ l.fn.keeps.log;
  keeps_opens : l.keeps.opens ≡ l.fn.keeps.opens;
}
