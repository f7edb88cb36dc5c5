use Rattle.std.proofs.Common.{◌≡◌}
use Rattle.replay_session.proofs.KeptLists.{all_without}
use Rattle.replay_session.proofs.keeps.Keeps.make_room.Goals as goal

pub invariant_of-self : goal.invariant_of-self
invariant_of-self g c =
    let old = c.loop-at.self in
    record { same = all_without (λ k. (k.replay.log ≡ old.log) × (k.replay.opens ≡ old.opens)) old.kept.items c.remove.new.self.items c.loop-at.at c.remove.ensures.by_index.2 old.same }
