use Rattle.run_pieces.proofs.Keeping.{recorded_runs_keep_rules}
use Rattle.run_pieces.proofs.laws.recorded_runs_keep_rules.Goals as goal

pub returns : goal.returns
returns g c = recorded_runs_keep_rules g.S.ObjectSpace.meaning g.M.Machine.code g.met.S.ObjectSpace.laws g.met.M.Machine.laws
