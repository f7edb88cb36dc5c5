use Rattle.replay_laws.proofs.Replays as Replays
use Rattle.replay_laws.proofs.laws.replays_are_right.Goals as goal

pub returns : goal.returns
returns g c = Replays.replays_are_right g.S.ObjectSpace.meaning g.M.Machine.code g.met.S.ObjectSpace.laws g.met.M.Machine.laws
