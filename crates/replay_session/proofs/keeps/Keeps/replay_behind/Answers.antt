use Rattle.std.proofs.Common.{refl, ap}
use Rattle.replay_session.proofs.KeptWays.{leads_same}
use Rattle.replay_session.proofs.keeps.Keeps.replay_behind.Goals as goal

pub keep_before-requires-clause-leads : goal.keep_before-requires-clause-leads
keep_before-requires-clause-leads g c =
    let inv = c.loop-distance.invariant in
    leads_same g.S.ObjectSpace.meaning g.M.Machine.code (g.L.ReadLog.log c.args.self.now.log) _ (g.O.OpenWorld.opened c.args.self.now.opens) _ c.args.way.now c.args.way.now (ap g.L.ReadLog.log inv.log) (ap g.O.OpenWorld.opened inv.opens) refl c.requires.leads

pub go_to_end-requires : goal.go_to_end-requires
go_to_end-requires g c =
    let inv = c.loop-distance.invariant in
    leads_same g.S.ObjectSpace.meaning g.M.Machine.code (g.L.ReadLog.log c.args.self.now.log) _ (g.O.OpenWorld.opened c.args.self.now.opens) _ c.args.way.now c.args.way.now (ap g.L.ReadLog.log inv.kept_log) (ap g.O.OpenWorld.opened inv.kept_opens) refl c.requires.leads

pub go_whole-requires-clause-leads : goal.go_whole-requires-clause-leads
go_whole-requires-clause-leads g c =
    let inv = c.loop-distance.invariant in
    leads_same g.S.ObjectSpace.meaning g.M.Machine.code (g.L.ReadLog.log c.args.self.now.log) _ (g.O.OpenWorld.opened c.args.self.now.opens) _ c.args.way.now c.args.way.now (ap g.L.ReadLog.log inv.log) (ap g.O.OpenWorld.opened inv.opens) refl c.requires.leads
