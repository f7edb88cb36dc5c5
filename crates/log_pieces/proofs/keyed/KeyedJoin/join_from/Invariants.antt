-- The old map is joined with the other's entries so far.
use Rattle.log_pieces.proofs.SoFar.{JoinedSoFar}
use Rattle.log_pieces.proofs.keyed.KeyedJoin.join_from.Given as goal

abbrev pub invariant-loop-key : goal.invariant-loop-key
invariant-loop-key g l = JoinedSoFar g.K.Ord.cmp g.V.Join.same g.V.Join.joined l.initial.self l.other l.key-iterator l.self
