use Rattle.replay_laws.proofs.Freedom as Freedom
use Rattle.replay_laws.proofs.laws.runs_replay.Goals as goal

pub returns : goal.returns
returns g c = Freedom.runs_replay g.S.ObjectSpace.meaning g.M.Machine.code g.met.S.ObjectSpace.laws g.met.M.Machine.laws
