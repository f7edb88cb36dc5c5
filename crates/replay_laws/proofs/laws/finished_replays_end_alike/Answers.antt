use Rattle.replay_laws.proofs.Replays as Replays
use Rattle.replay_laws.proofs.laws.finished_replays_end_alike.Goals as goal

pub returns : goal.returns
returns g c = Replays.finished_replays_end_alike g.S.ObjectSpace.meaning g.M.Machine.code g.met.S.ObjectSpace.laws g.met.M.Machine.laws
