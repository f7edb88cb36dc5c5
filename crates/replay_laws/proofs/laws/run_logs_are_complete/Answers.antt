use Rattle.replay_laws.proofs.Replays as Replays
use Rattle.replay_laws.proofs.laws.run_logs_are_complete.Goals as goal

pub returns : goal.returns
returns g c = Replays.run_logs_are_complete g.S.ObjectSpace.meaning g.M.Machine.code g.met.S.ObjectSpace.laws g.met.M.Machine.laws
