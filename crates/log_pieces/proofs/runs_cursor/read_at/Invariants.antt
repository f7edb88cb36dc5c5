-- The pairs from `now` on are left.
use Rattle.log_pieces.specs.PackedClaim.{read_pairs}
use Rattle.log_pieces.proofs.PlaceByPlace.{StillAhead}
use Rattle.log_pieces.proofs.runs_cursor.read_at.Given as goal

abbrev pub invariant-loop-now : goal.invariant-loop-now
invariant-loop-now g l = StillAhead (read_pairs g.T.Packed.read l.ahead.left l.ahead.rest.now) (read_pairs g.T.Packed.read l.now.left l.now.rest.now) l.ahead.low l.now.low l.at

abbrev pub decreases-loop-now : goal.decreases-loop-now
decreases-loop-now g l = l.now.left
