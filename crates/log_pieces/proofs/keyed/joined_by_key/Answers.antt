use Rattle.log_pieces.specs.ClaimDecides.{cmp_exact}
use Rattle.log_pieces.specs.KeyedLaws.{value_at-keyed_joined}
use Rattle.log_pieces.proofs.keyed.joined_by_key.Goals as goal

pub returns : goal.returns
returns g c = value_at-keyed_joined g.K.Ord.cmp (cmp_exact g.K.PartialEq.eq g.K.Ord.cmp g.met.K.Same.decides g.met.K.Ord.matches_eq) g.V.Join.joined
