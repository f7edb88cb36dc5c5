use Rattle.std.proofs.Common.{◌≡◌, ◌≤◌, ◌+◌, ◌*◌, ◌-◌, length}
use Rattle.event_core.specs.World.{world_of}
use Rattle.replay_session.specs.Picks.{ArePut}
use Rattle.replay_session.proofs.RoundsSoFar.{RoundsSoFar}
use Rattle.replay_session.proofs.picks.pick_rounds.Given as goal

abbrev pub invariant-loop-made : goal.invariant-loop-made
invariant-loop-made g l = record {
  rounds : RoundsSoFar g.S.ObjectSpace.meaning g.M.Machine.code (g.L.ReadLog.log l.fn.replay.log) (world_of l.fn.replay.world) l.steps l.made l.before l.next l.count (world_of l.replay.world);
  put : ArePut g.S.ObjectSpace.meaning g.M.Machine.code (g.L.ReadLog.log l.fn.replay.log) l.made l.fn.picks l.picks (world_of l.fn.replay.world) (world_of l.replay.world);
  threads : length (world_of l.replay.world).threads ≤ 16;
  reads : g.L.ReadLog.reads l.replay.log l.reader;
  log : l.replay.log ≡ l.fn.replay.log;
  opens : l.replay.opens ≡ l.fn.replay.opens;
}

abbrev pub decreases-loop-made : goal.decreases-loop-made
decreases-loop-made g l = 40 * (l.steps - l.before) + (l.count - l.next)
