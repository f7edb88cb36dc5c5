use Rattle.std.proofs.Common.{refl, sym, ap, ◌∙◌, subst}
use Rattle.std.proofs.lemmas.List.{drop_all}
use Rattle.event_core.specs.World.{world_of}
use Rattle.replay_session.specs.Ways.{WayLeads}
use Rattle.replay_session.proofs.LegByLeg.{here_leads, on_leads, back_leads}
use Rattle.replay_session.proofs.going.go_way.Goals as goal

pub go_leg-requires : goal.go_leg-requires
go_leg-requires g c =
    let inv = c.loop-leg.invariant in
    here_leads g.met.M.Machine.laws (ap g.L.ReadLog.log inv.log) c.args.legs.now c.loop-leg.leg-index c.loop-leg-test.true (world_of c.loop-leg.replay.world) inv.rest

pub loop-leg-preserved : goal.loop-leg-preserved
loop-leg-preserved g c =
    let rules = g.met.M.Machine.laws in
    let inv = c.loop-leg.invariant in
    let same = ap g.L.ReadLog.log inv.log in
    let k = c.loop-leg.leg-index in
    let u = world_of c.loop-leg.replay.world in
    let x = world_of c.go_leg.new.replay.world in
    let gone = c.in_ok-go_leg.ensures in
    record {
      rest = on_leads rules same c.args.legs.now k c.loop-leg-test.true u x gone.leads inv.rest;
      on = λ v h. inv.on v (back_leads rules same c.args.legs.now k c.loop-leg-test.true u x v gone.leads h);
      log = gone.log ∙ inv.log;
      opens = gone.opens ∙ inv.opens;
    }

pub returns-clause-leads : goal.returns-clause-leads
returns-clause-leads g c =
    let v = world_of c.loop-leg.replay.world in
    c.loop-leg.invariant.on v (subst (λ ls. WayLeads g.S.ObjectSpace.meaning g.M.Machine.code (g.L.ReadLog.log c.args.replay.now.log) ls v v) (sym (drop_all c.loop-leg.leg-index c.args.legs.now c.loop-leg-test.false)) refl)
