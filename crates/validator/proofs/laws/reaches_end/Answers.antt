use Rattle.validator.proofs.Reach.{reaches_end}
use Rattle.validator.proofs.laws.reaches_end.Goals as goal

pub returns : goal.returns
returns c = reaches_end
