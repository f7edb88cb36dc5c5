use Rattle.replay_laws.proofs.Histories as Histories
use Rattle.replay_laws.proofs.laws.histories_are_runs.Goals as goal

pub returns : goal.returns
returns g c = Histories.histories_are_runs g.S.ObjectSpace.meaning g.M.Machine.code
