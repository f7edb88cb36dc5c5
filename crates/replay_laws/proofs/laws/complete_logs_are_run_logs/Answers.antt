use Rattle.replay_laws.proofs.Replays as Replays
use Rattle.replay_laws.proofs.laws.complete_logs_are_run_logs.Goals as goal

pub returns : goal.returns
returns g c = Replays.complete_logs_are_run_logs g.S.ObjectSpace.meaning g.M.Machine.code g.met.S.ObjectSpace.laws g.met.M.Machine.laws
