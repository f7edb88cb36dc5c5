use Rattle.std.proofs.Common.{refl, sym, ap, ◌∙◌, subst}
use Rattle.std.proofs.lemmas.List.{drop_all}
use Rattle.event_core.specs.World.{world_of}
use Rattle.replay_session.specs.Ways.{WayLeads}
use Rattle.replay_session.proofs.LegByLeg.{here_leads, on_leads, back_leads}
use Rattle.replay_session.proofs.PutPicks.{ArePutBefore, all_put, put_before_all, put_here, room_here}
use Rattle.replay_session.proofs.picks.picks_of_way.Goals as goal

pub loop-leg-init : goal.loop-leg-init
loop-leg-init g c = record {
  rest = c.requires.leads;
  on = λ v h. h;
  put = subst (λ ps. ArePutBefore g.S.ObjectSpace.meaning g.M.Machine.code (g.L.ReadLog.log c.args.replay.now.log) c.args.legs.now c.args.legs.now ps (world_of c.args.replay.now.world) (world_of c.args.replay.now.world)) (sym c.new-picks.ensures) (put_before_all g.S.ObjectSpace.meaning g.M.Machine.code (g.L.ReadLog.log c.args.replay.now.log) c.args.legs.now (world_of c.args.replay.now.world));
  log = refl;
}

pub pick_leg-requires-clause-leads : goal.pick_leg-requires-clause-leads
pick_leg-requires-clause-leads g c =
    let inv = c.loop-leg.invariant in
    here_leads g.met.M.Machine.laws (ap g.L.ReadLog.log inv.log) c.args.legs.now c.loop-leg.leg-index c.loop-leg-test.true (world_of c.loop-leg.replay.world) inv.rest

pub pick_leg-requires-clause-room : goal.pick_leg-requires-clause-room
pick_leg-requires-clause-room g c =
    room_here g.S.ObjectSpace.meaning g.M.Machine.code (g.L.ReadLog.log c.args.replay.now.log) c.args.legs.now c.loop-leg.leg-index c.loop-leg-test.true 1000000 c.loop-leg.picks _ _ c.requires.few c.loop-leg.invariant.put

pub loop-leg-preserved : goal.loop-leg-preserved
loop-leg-preserved g c =
    let rules = g.met.M.Machine.laws in
    let inv = c.loop-leg.invariant in
    let same = ap g.L.ReadLog.log inv.log in
    let k = c.loop-leg.leg-index in
    let u = world_of c.loop-leg.replay.world in
    let x = world_of c.pick_leg.new.replay.world in
    let gone = c.in_ok-pick_leg.ensures in
    record {
      rest = on_leads rules same c.args.legs.now k c.loop-leg-test.true u x gone.leads inv.rest;
      on = λ v h. inv.on v (back_leads rules same c.args.legs.now k c.loop-leg-test.true u x v gone.leads h);
      put = put_here g.S.ObjectSpace.meaning g.M.Machine.code (g.L.ReadLog.log c.args.replay.now.log) c.args.legs.now k c.loop-leg-test.true _ same c.loop-leg.picks c.pick_leg.new.picks _ u x inv.put gone.put;
      log = gone.log ∙ inv.log;
    }

pub returns-clause-leads : goal.returns-clause-leads
returns-clause-leads g c =
    let v = world_of c.loop-leg.replay.world in
    c.loop-leg.invariant.on v (subst (λ ls. WayLeads g.S.ObjectSpace.meaning g.M.Machine.code (g.L.ReadLog.log c.args.replay.now.log) ls v v) (sym (drop_all c.loop-leg.leg-index c.args.legs.now c.loop-leg-test.false)) refl)

pub returns-clause-put : goal.returns-clause-put
returns-clause-put g c =
    all_put g.S.ObjectSpace.meaning g.M.Machine.code (g.L.ReadLog.log c.args.replay.now.log) c.args.legs.now _ c.loop-leg.picks _ _ (drop_all c.loop-leg.leg-index c.args.legs.now c.loop-leg-test.false) c.loop-leg.invariant.put
