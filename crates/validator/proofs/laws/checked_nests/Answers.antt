use Rattle.validator.proofs.CheckedNests.{checked_nests}
use Rattle.validator.proofs.laws.checked_nests.Goals as goal

pub returns : goal.returns
returns c = checked_nests
