use Rattle.replay_laws.proofs.Freedom as Freedom
use Rattle.replay_laws.proofs.laws.complete_replays_are_free.Goals as goal

pub returns : goal.returns
returns g c = Freedom.complete_replays_are_free g.S.ObjectSpace.meaning g.M.Machine.code g.met.S.ObjectSpace.laws g.met.M.Machine.laws
