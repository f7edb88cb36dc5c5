-- The other's claims so far are joined.
use Rattle.log_pieces.proofs.Merging.{ClaimsSoFar}
use Rattle.log_pieces.proofs.runs.Runs.join_runs.Given as goal

abbrev pub invariant-loop-place : goal.invariant-loop-place
invariant-loop-place g l = ClaimsSoFar g.T.PartialEq.eq l.initial.self l.other l.place-iterator l.self
