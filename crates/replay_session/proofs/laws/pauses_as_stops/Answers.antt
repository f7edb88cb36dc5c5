use Rattle.replay_session.proofs.PausedRuns.{as_stops}
use Rattle.replay_session.proofs.laws.pauses_as_stops.Goals as goal

pub returns : goal.returns
returns g c = λ log breaks holds never start v p. as_stops g.S.ObjectSpace.meaning g.M.Machine.code log breaks holds never start v p
