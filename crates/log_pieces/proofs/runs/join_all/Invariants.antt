-- The items before the rest are joined.
use Rattle.std.proofs.Common.{length}
use Rattle.log_pieces.specs.Runs.{claims, ArePages}
use Rattle.log_pieces.proofs.Stretches.{StretchesJoined}
use Rattle.log_pieces.proofs.runs.join_all.Given as goal

abbrev pub invariant-loop-rest : goal.invariant-loop-rest
invariant-loop-rest g l = record {
  pages : ArePages g.T.Packed.spelled g.T.Packed.read g.T.Packed.Fits l.pages.entries;
  joined : StretchesJoined g.T.PartialEq.eq (claims g.T.Packed.read l.initial.pages.entries) l.first l.items l.place l.rest (claims g.T.Packed.read l.pages.entries);
}

abbrev pub decreases-loop-rest : goal.decreases-loop-rest
decreases-loop-rest g l = length l.rest
