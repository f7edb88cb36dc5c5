use Rattle.std.proofs.Common.{ap, ◌∙◌}
use Rattle.replay_session.proofs.KeptWays.{first_steps_go, leads_same}
use Rattle.replay_session.proofs.keeps.Keeps.keep_before.Goals as goal

pub go_near-requires : goal.go_near-requires
go_near-requires g c =
    let keeps = c.args.self.now in
    let log = g.L.ReadLog.log keeps.log in
    let opened = g.O.OpenWorld.opened keeps.opens in
    leads_same g.S.ObjectSpace.meaning g.M.Machine.code log _ opened _ _ _ (ap g.L.ReadLog.log c.requires.log) (ap g.O.OpenWorld.opened c.requires.opens) (c.as_slice-2.ensures.value ∙ c.in_ok-near.ensures)
    (first_steps_go g.S.ObjectSpace.meaning g.M.Machine.code g.met.M.Machine.laws log c.args.way.now _ opened c.requires.leads)
