-- A place in the rounds, up to which nothing held.
use Rattle.std.proofs.Common.{◌≡◌, ◌≤◌, ◌+◌, ◌-◌, ◌*◌, cond, length}
use Rattle.event_core.specs.Threads.{all_steps}
use Rattle.event_core.specs.World.{world_of}
use Rattle.replay_session.proofs.PausedRounds.{InRound}
use Rattle.replay_session.proofs.pausing.rounds_until.Given as goal

abbrev pub invariant-loop-made : goal.invariant-loop-made
invariant-loop-made g l = record {
  round : InRound g.S.ObjectSpace.meaning g.M.Machine.code (g.L.ReadLog.log l.fn.replay.log) l.breaks (g.T.Test.holds l.test) (world_of l.fn.replay.world) l.next l.made l.held (world_of l.replay.world);
  count : l.count ≡ length (world_of l.fn.replay.world).threads;
  most : l.count ≤ 16;
  reads : g.L.ReadLog.reads l.replay.log l.reader;
  log : l.replay.log ≡ l.fn.replay.log;
  opens : l.replay.opens ≡ l.fn.replay.opens;
}

abbrev pub decreases-loop-made : goal.decreases-loop-made
decreases-loop-made g l = 34 * (16000000000 - all_steps g.M.Machine.code (world_of l.replay.world).threads) + cond l.made 17 0 + (l.count - l.next)
