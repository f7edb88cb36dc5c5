use Rattle.std.proofs.Common.{◌≡◌, ◌-◌, length}
use Rattle.replay_session.proofs.keeps.Keeps.make_room.Given as goal

abbrev pub invariant-loop-at : goal.invariant-loop-at
invariant-loop-at g l = record {
  opens : l.self.opens ≡ l.fn.self.opens;
  log : l.self.log ≡ l.fn.self.log;
}

abbrev pub decreases-loop-at : goal.decreases-loop-at
decreases-loop-at g l = length l.self.kept.items - l.at
