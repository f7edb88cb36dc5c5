use Rattle.std.proofs.lemmas.Result.{on_ok_weaker}
use Rattle.log_pieces.specs.ClaimLaws.{claims_same}
use Rattle.log_pieces.proofs.runs_join.RunsJoin.join_from.Goals as goal

pub returns-clause-joined : goal.returns-clause-joined
returns-clause-joined g c =
    on_ok_weaker c.join_runs.result (claims_same g.T.PartialEq.eq g.met.T.Same.decides c.args.self.now c.args.other.now c.join_runs.new.self) c.join_runs.ensures.joined
