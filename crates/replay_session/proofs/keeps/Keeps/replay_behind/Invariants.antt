use Rattle.std.proofs.Common.{◌≡◌}
use Rattle.replay_session.proofs.keeps.Keeps.replay_behind.Given as goal

abbrev pub invariant-loop-distance : goal.invariant-loop-distance
invariant-loop-distance g l = record {
  opens : l.self.opens ≡ l.fn.self.opens;
  log : l.self.log ≡ l.fn.self.log;
  kept_opens : l.kept.replay.opens ≡ l.fn.self.opens;
  kept_log : l.kept.replay.log ≡ l.fn.self.log;
}
