use Rattle.std.proofs.Common.{◌≡◌, length}
use Rattle.replay_session.proofs.keeps.Keeps.nearest.Given as goal

abbrev pub invariant-loop-kept : goal.invariant-loop-kept
invariant-loop-kept g l = record {
  opens : l.self.opens ≡ l.fn.self.opens;
  log : l.self.log ≡ l.fn.self.log;
}

abbrev pub decreases-loop-kept : goal.decreases-loop-kept
decreases-loop-kept g l = length l.self.kept.items
