use Rattle.std.proofs.Common.{◌+◌, refl, ap, ◌∙◌}
use Rattle.event_core.specs.World.{world_of}
use Rattle.replay_session.specs.Legs.{steps_of_leg, leg_with}
use Rattle.replay_session.proofs.KeptWays.{stands_on, stands_same}
use Rattle.replay_session.proofs.kept.Kept.go_on.Goals as goal

pub invariant_of-result : goal.invariant_of-result
invariant_of-result g c =
    let space = g.S.ObjectSpace.meaning in
    let code = g.M.Machine.code in
    let kept = c.args.self in
    let gone = c.in_ok-made.ensures in
    let made = c.in_ok-made.made in
    let part = c.with.ensures ∙ ap (λ n. leg_with kept.part (n + made)) c.steps-before.ensures in
    record {
      stands = stands_same space code _ _ _ _ _ _ kept.legs.items _ (leg_with kept.part (steps_of_leg kept.part + made)) _ (ap g.L.ReadLog.log gone.log) (ap g.O.OpenWorld.opened gone.opens) refl refl part
          (stands_on space code g.met.M.Machine.laws (g.L.ReadLog.log kept.replay.log) kept.legs.items kept.part made (g.O.OpenWorld.opened kept.replay.opens) (world_of kept.replay.world) (world_of c.go_part.new.replay.world) kept.stands gone.part);
    }
