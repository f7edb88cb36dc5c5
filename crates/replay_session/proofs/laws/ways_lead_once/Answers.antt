use Rattle.replay_session.proofs.Ways.{ways_lead_once as once}
use Rattle.replay_session.proofs.laws.ways_lead_once.Goals as goal

pub returns : goal.returns
returns g c = λ log legs w v u. once g.S.ObjectSpace.meaning g.M.Machine.code g.met.M.Machine.laws log legs w v u
