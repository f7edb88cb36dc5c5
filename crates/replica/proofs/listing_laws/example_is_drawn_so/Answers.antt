-- The definitions computed.
use Rattle.std.proofs.Common.{refl}
use Rattle.std.specs.Fmt.{digits}
use Rattle.replica.proofs.listing_laws.example_is_drawn_so.Goals as goal

pub returns : goal.returns
unfolding digits
returns c = refl
