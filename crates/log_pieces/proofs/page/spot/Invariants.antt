-- The pairs before are passed.
use Rattle.std.proofs.Common.{◌-◌}
use Rattle.log_pieces.specs.PackedClaim.{read_pairs}
use Rattle.log_pieces.proofs.Pages.{Scan}
use Rattle.log_pieces.proofs.page.spot.Given as goal

abbrev pub invariant-loop : goal.invariant-loop
invariant-loop g l = Scan g.T.Packed.spelled g.T.Packed.Fits (read_pairs g.T.Packed.read l.count l.bytes) l.bytes l.at l.rest (l.count - l.counter)
