use Rattle.std.proofs.Common.{refl, ap, ◌∙◌}
use Rattle.replay_session.proofs.KeptWays.{stands_same}
use Rattle.replay_session.proofs.kept.Kept.copied.Goals as goal

pub invariant_of-result : goal.invariant_of-result
invariant_of-result g c =
    let kept = c.args.self.now in
    let copy = c.in_ok-replay.ensures in
    let legs = c.in_ok-legs.ensures.items_if_clones_equal (λ x y same. same) ∙ c.as_slice.ensures.value in
    record { stands = stands_same g.S.ObjectSpace.meaning g.M.Machine.code _ _ _ _ _ _ kept.legs.items _ kept.part kept.part (ap g.L.ReadLog.log copy.log) (ap g.O.OpenWorld.opened copy.opens) copy.world legs refl kept.stands }
