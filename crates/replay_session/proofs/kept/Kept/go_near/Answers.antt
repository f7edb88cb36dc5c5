use Rattle.std.proofs.Common.{◌-◌, length, take, drop, sym}
use Rattle.std.proofs.lemmas.List.{take-append-drop}
use Rattle.replay_session.proofs.KeptWays.{first_leads}
use Rattle.replay_session.proofs.kept.Kept.go_near.Goals as goal

pub enter-requires : goal.enter-requires
enter-requires g c =
    let kept = c.args.self in
    let way = c.args.way.now in
    let n = length way - 1 in
    first_leads g.S.ObjectSpace.meaning g.M.Machine.code g.met.M.Machine.laws (g.L.ReadLog.log kept.replay.log) way (take n way) (drop n way) (g.O.OpenWorld.opened kept.replay.opens) (sym (take-append-drop n way)) c.requires
