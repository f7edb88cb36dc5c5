use Rattle.std.proofs.Common.{◌≡◌, ◌∙◌, sym}
use Rattle.replay_session.proofs.KeptLists.{all_pushed}
use Rattle.replay_session.proofs.keeps.Keeps.put.Goals as goal

pub invariant_of-self : goal.invariant_of-self
invariant_of-self g c =
    let old = c.make_room.new.self in
    let room = c.make_room.ensures in
    record { same = all_pushed (λ k. (k.replay.log ≡ old.log) × (k.replay.opens ≡ old.opens)) old.kept.items c.push.new.self.items c.args.kept _ c.push.ensures.items old.same (c.requires.log ∙ sym room.log, c.requires.opens ∙ sym room.opens) }
