use Rattle.validator.proofs.Reach.{reaches_else}
use Rattle.validator.proofs.laws.reaches_else.Goals as goal

pub returns : goal.returns
returns c = reaches_else
