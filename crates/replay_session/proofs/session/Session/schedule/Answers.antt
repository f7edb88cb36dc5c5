use Rattle.std.proofs.Common.{sym, ap, ◌∙◌}
use Rattle.event_core.specs.World.{world_of}
use Rattle.replay_session.proofs.PutPicks.{comes_there, leads_again}
use Rattle.replay_session.proofs.session.Session.schedule.Goals as goal

pub picks_of_way-requires-clause-leads : goal.picks_of_way-requires-clause-leads
picks_of_way-requires-clause-leads g c =
    let session = c.args.self.now in
    let opened = c.in_ok-replay.ensures in
    leads_again g.S.ObjectSpace.meaning g.M.Machine.code g.met.M.Machine.laws (g.L.ReadLog.log session.replay.log) _ (ap g.L.ReadLog.log (opened.log ∙ sym session.same_log)) (g.O.OpenWorld.opened session.replay.opens) _ (world_of session.replay.world)
    (opened.world ∙ ap g.O.OpenWorld.opened (sym session.same_opens)) session.legs.items _ c.as_slice.ensures.value session.leads

pub returns-clause-comes : goal.returns-clause-comes
returns-clause-comes g c =
    let session = c.args.self.now in
    let opened = c.in_ok-replay.ensures in
    comes_there g.S.ObjectSpace.meaning g.M.Machine.code g.met.M.Machine.laws (g.L.ReadLog.log session.replay.log) _ (ap g.L.ReadLog.log (opened.log ∙ sym session.same_log)) (g.O.OpenWorld.opened session.replay.opens) _ (world_of session.replay.world)
    (opened.world ∙ ap g.O.OpenWorld.opened (sym session.same_opens)) session.legs.items _ c.as_slice.ensures.value session.leads c.in_ok-picks.picks (world_of c.picks_of_way.new.replay.world) c.in_ok-picks.ensures.leads c.in_ok-picks.ensures.put
