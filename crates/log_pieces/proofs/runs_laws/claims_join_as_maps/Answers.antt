use Rattle.log_pieces.specs.ClaimLaws.{claim_laws, claims_same}
use Rattle.log_pieces.proofs.runs_laws.claims_join_as_maps.Goals as goal

pub returns-clause-laws : goal.returns-clause-laws
returns-clause-laws g c = claim_laws g.T.PartialEq.eq g.met.T.Same.decides

pub returns-clause-same : goal.returns-clause-same
returns-clause-same g c = claims_same g.T.PartialEq.eq g.met.T.Same.decides
