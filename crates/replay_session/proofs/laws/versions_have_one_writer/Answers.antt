use Rattle.replay_session.proofs.OneWriter as Writers
use Rattle.replay_session.proofs.laws.versions_have_one_writer.Goals as goal

pub returns : goal.returns
returns g c = Writers.versions_have_one_writer g.S.ObjectSpace.meaning g.M.Machine.code g.met.S.ObjectSpace.laws g.met.M.Machine.laws
