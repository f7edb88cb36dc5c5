-- So many runs begin at the places so far.
use Rattle.log_pieces.proofs.Neighbours.{Begun}
use Rattle.log_pieces.proofs.runs.Runs.runs.Given as goal

abbrev pub invariant-loop-place : goal.invariant-loop-place
invariant-loop-place g l = Begun l.self l.place-iterator l.next l.count
