-- The definitions computed.
use Rattle.std.proofs.Common.{refl}
use Rattle.std.specs.Fmt.{digits}
use Rattle.replica.proofs.listing_laws.example_has_these_lines.Goals as goal

pub returns-clause-lines : goal.returns-clause-lines
unfolding digits
returns-clause-lines c = refl

pub returns-clause-shared : goal.returns-clause-shared
returns-clause-shared c = refl
