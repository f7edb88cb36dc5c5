use Rattle.replay_laws.proofs.Replays as Replays
use Rattle.replay_laws.proofs.laws.one_recorded_value.Goals as goal

pub returns : goal.returns
returns g c = Replays.one_recorded_value g.S.ObjectSpace.meaning g.M.Machine.code g.met.S.ObjectSpace.laws g.met.M.Machine.laws
