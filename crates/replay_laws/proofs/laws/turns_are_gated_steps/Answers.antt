use Rattle.replay_laws.proofs.Replays as Replays
use Rattle.replay_laws.proofs.laws.turns_are_gated_steps.Goals as goal

pub returns : goal.returns
returns g c = Replays.turns_are_gated_steps g.S.ObjectSpace.meaning g.M.Machine.code g.met.S.ObjectSpace.laws g.met.M.Machine.laws
