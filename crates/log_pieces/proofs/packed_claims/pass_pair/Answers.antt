use Rattle.std.proofs.Common.{sym}
use Rattle.log_pieces.proofs.Passing.{passed_some}
use Rattle.log_pieces.proofs.packed_claims.pass_pair.Goals as goal

pub invariant_of-item : goal.invariant_of-item
invariant_of-item g c = let item = passed_some (g.T.Packed.read _) c.in-Some.behind.now (sym c.in-Some.ensures) in (item.0, c.in-Some.behind.now, item.1)
