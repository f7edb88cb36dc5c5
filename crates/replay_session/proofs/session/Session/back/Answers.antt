use Rattle.std.proofs.Common.{◌-◌, refl, sym, ap, ◌∙◌, subst, arith}
use Rattle.event_core.specs.World.{world_of}
use Rattle.replay_session.specs.Legs.{steps_of_way}
use Rattle.replay_session.proofs.Keeping.{few_steps, goes_again, kept}
use Rattle.replay_session.proofs.StepsOfWays.{first_count}
use Rattle.replay_session.proofs.session.Session.back.Goals as goal

pub replay_behind-requires-clause-suits : goal.replay_behind-requires-clause-suits
replay_behind-requires-clause-suits g c = subst g.O.OpenWorld.suits (sym c.args.self.now.keeps_opens) c.requires

pub replay_behind-requires-clause-leads : goal.replay_behind-requires-clause-leads
replay_behind-requires-clause-leads g c =
    let session = c.args.self.now in
    goes_again g.S.ObjectSpace.meaning g.M.Machine.code g.met.S.ObjectSpace.laws g.met.M.Machine.laws _ _ _ _ (world_of session.replay.world) session.legs.items _ _
    (ap g.L.ReadLog.log (session.keeps_log ∙ sym session.same_log)) (ap g.O.OpenWorld.opened (session.keeps_opens ∙ sym session.same_opens)) (c.as_slice.ensures.value ∙ c.in_ok-legs.ensures.legs) session.leads

pub replay_behind-requires-clause-few : goal.replay_behind-requires-clause-few
replay_behind-requires-clause-few g c =
    let session = c.args.self.now in
    let few = few_steps g.S.ObjectSpace.meaning g.M.Machine.code g.met.S.ObjectSpace.laws g.met.M.Machine.laws (g.L.ReadLog.log session.replay.log) (g.met.L.ReadLog.limits session.replay.log) (g.O.OpenWorld.opened session.replay.opens) (world_of session.replay.world) session.legs.items session.replay.world.sound session.leads in
    let e = ap steps_of_way (c.as_slice.ensures.value ∙ c.in_ok-legs.ensures.legs) in
    let count = first_count session.legs.items (steps_of_way session.legs.items - c.args.steps) (omega arith) in
    omega (arith, e, count, few)

pub invariant_of-self : goal.invariant_of-self
invariant_of-self g c =
    let session = c.args.self.now in
    record {
      same_log = session.same_log;
      same_opens = session.same_opens;
      keeps_log = c.replay_behind.ensures.log ∙ session.keeps_log;
      keeps_opens = c.replay_behind.ensures.opens ∙ session.keeps_opens;
      leads = session.leads;
    }

pub invariant_of-self-2 : goal.invariant_of-self-2
invariant_of-self-2 g c =
    let session = c.args.self.now in
    let gone = c.in_ok-replay.ensures in
    let v = world_of c.in_ok-replay.replay.world in
    record {
      same_log = gone.replay_log ∙ session.keeps_log;
      same_opens = gone.replay_opens ∙ session.keeps_opens;
      keeps_log = c.replay_behind.ensures.log ∙ session.keeps_log;
      keeps_opens = c.replay_behind.ensures.opens ∙ session.keeps_opens;
      leads = kept g.S.ObjectSpace.meaning g.M.Machine.code _ _ _ _ v v _ _ (ap g.L.ReadLog.log gone.replay_log) (ap g.O.OpenWorld.opened gone.replay_opens) refl (sym c.as_slice.ensures.value) gone.leads;
    }
