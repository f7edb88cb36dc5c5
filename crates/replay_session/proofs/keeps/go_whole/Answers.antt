use Rattle.std.proofs.Common.{refl, sym, ap}
use Rattle.std.proofs.lemmas.Grind.{merely}
use Rattle.event_core.specs.World.{world_of}
use Rattle.replay_session.proofs.Keeping.{kept}
use Rattle.replay_session.proofs.KeptWays.{leads_same}
use Rattle.replay_session.proofs.keeps.go_whole.Goals as goal

pub go_way-requires : goal.go_way-requires
go_way-requires g c =
    let opened = c.in_ok-replay.ensures in
    leads_same g.S.ObjectSpace.meaning g.M.Machine.code (g.L.ReadLog.log c.args.log) _ (g.O.OpenWorld.opened c.args.opens) _ c.args.way.now c.args.way.now (ap g.L.ReadLog.log opened.log) opened.world refl c.requires.leads

pub returns-clause-leads : goal.returns-clause-leads
returns-clause-leads g c =
    let opened = c.in_ok-replay.ensures in
    let v = world_of c.go_way.new.replay.world in
    kept g.S.ObjectSpace.meaning g.M.Machine.code _ (g.L.ReadLog.log c.args.log) _ (g.O.OpenWorld.opened c.args.opens) v v c.args.way.now c.args.way.now (sym (ap g.L.ReadLog.log opened.log)) (sym opened.world) refl refl (merely c.in_ok-go_way.ensures.leads)
