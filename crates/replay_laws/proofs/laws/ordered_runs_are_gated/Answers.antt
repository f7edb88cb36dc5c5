use Rattle.replay_laws.proofs.Orders as Orders
use Rattle.replay_laws.proofs.laws.ordered_runs_are_gated.Goals as goal

pub returns : goal.returns
returns g c = Orders.ordered_runs_are_gated g.S.ObjectSpace.meaning g.M.Machine.code g.met.S.ObjectSpace.laws g.met.M.Machine.laws
