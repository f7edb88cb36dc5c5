-- The claims that are left are the same exactly where all are.
use Rattle.std.proofs.Common.{◌≡◌}
use Rattle.log_pieces.specs.SameClaims.{claims_eq}
use Rattle.log_pieces.proofs.runs_join.RunsPartialEq.eq.Given as goal

abbrev pub invariant-loop-place : goal.invariant-loop-place
invariant-loop-place g l = claims_eq g.T.PartialEq.eq l.self l.other ≡ claims_eq g.T.PartialEq.eq l.place-iterator l.theirs
