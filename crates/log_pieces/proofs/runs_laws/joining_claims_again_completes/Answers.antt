use Rattle.log_pieces.specs.ClaimLaws.{claims_again}
use Rattle.log_pieces.proofs.runs_laws.joining_claims_again_completes.Goals as goal

pub returns : goal.returns
returns g c = claims_again g.T.PartialEq.eq g.met.T.Same.decides
