use Rattle.replay_session.proofs.Ways.{first_steps_lead as shorter}
use Rattle.replay_session.proofs.laws.first_steps_lead.Goals as goal

pub returns : goal.returns
returns g c = λ log legs w v leads n. shorter g.S.ObjectSpace.meaning g.M.Machine.code g.met.M.Machine.laws log legs w v leads n
