use Rattle.validator.proofs.Reach.{leaves_nothing}
use Rattle.validator.proofs.laws.an_if_without_else_leaves_nothing.Goals as goal

pub returns : goal.returns
returns c = leaves_nothing
