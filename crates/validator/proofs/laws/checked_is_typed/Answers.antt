use Rattle.validator.proofs.Sound.{checked_typed}
use Rattle.validator.proofs.laws.checked_is_typed.Goals as goal

pub returns : goal.returns
returns c = checked_typed
