use Rattle.replay_gate.proofs.OneStop.{stops_once as once}
use Rattle.replay_gate.proofs.break_laws.stops_once.Goals as goal

pub returns : goal.returns
returns g c = λ log start order breaks v u s r. once g.S.ObjectSpace.meaning g.M.Machine.code log start order breaks v u s r
