use Rattle.replay_session.proofs.Ways.{ways_count_steps as counted}
use Rattle.replay_session.proofs.laws.ways_count_steps.Goals as goal

pub returns : goal.returns
returns g c = λ log limits legs w v. counted g.S.ObjectSpace.meaning g.M.Machine.code g.met.M.Machine.laws log g.met.S.ObjectSpace.laws limits legs w v
