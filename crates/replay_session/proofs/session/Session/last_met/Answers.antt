use Rattle.std.proofs.Common.{◌-◌, sym, ap, ◌∙◌, arith}
use Rattle.event_core.specs.World.{world_of}
use Rattle.replay_session.specs.Legs.{steps_of_way}
use Rattle.replay_session.proofs.Keeping.{few_steps, goes_again}
use Rattle.replay_session.proofs.Reversing.{on_ok, last_of_first}
use Rattle.replay_session.proofs.StepsOfWays.{first_count}
use Rattle.replay_session.proofs.session.Session.last_met.Goals as goal

pub last_hit-requires-clause-leads : goal.last_hit-requires-clause-leads
last_hit-requires-clause-leads g c =
    let session = c.args.self.now in
    let opened = c.in_ok-replay.ensures in
    goes_again g.S.ObjectSpace.meaning g.M.Machine.code g.met.S.ObjectSpace.laws g.met.M.Machine.laws _ _ _ _ (world_of session.replay.world) session.legs.items _ _
    (ap g.L.ReadLog.log (opened.log ∙ sym session.same_log)) (opened.world ∙ ap g.O.OpenWorld.opened (sym session.same_opens)) (c.as_slice.ensures.value ∙ c.in_ok-legs.ensures.legs) session.leads

pub last_hit-requires-clause-few : goal.last_hit-requires-clause-few
last_hit-requires-clause-few g c =
    let session = c.args.self.now in
    let few = few_steps g.S.ObjectSpace.meaning g.M.Machine.code g.met.S.ObjectSpace.laws g.met.M.Machine.laws (g.L.ReadLog.log session.replay.log) (g.met.L.ReadLog.limits session.replay.log) (g.O.OpenWorld.opened session.replay.opens) (world_of session.replay.world) session.legs.items session.replay.world.sound session.leads in
    let e = ap steps_of_way (c.as_slice.ensures.value ∙ c.in_ok-legs.ensures.legs) in
    let count = first_count session.legs.items (steps_of_way session.legs.items - 1) (omega arith) in
    omega (arith, e, count, few)

pub returns : goal.returns
returns g c =
    let session = c.args.self.now in
    let opened = c.in_ok-replay.ensures in
    on_ok c.last_hit.result _ _ c.last_hit.ensures
    (λ last h. last_of_first g.S.ObjectSpace.meaning g.M.Machine.code c.args.breaks.now (g.T.Test.holds c.args.test.now) g.met.M.Machine.laws _ _ _ _ session.legs.items _ (steps_of_way session.legs.items - 1) last
    (ap g.L.ReadLog.log (opened.log ∙ sym session.same_log)) (opened.world ∙ ap g.O.OpenWorld.opened (sym session.same_opens)) (c.as_slice.ensures.value ∙ c.in_ok-legs.ensures.legs) (omega arith) h)
