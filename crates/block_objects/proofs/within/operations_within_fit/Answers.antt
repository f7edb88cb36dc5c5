use Rattle.block_objects.proofs.Below.{ops_within_fit}
use Rattle.block_objects.proofs.within.operations_within_fit.Goals as goal

pub returns : goal.returns
returns c = ops_within_fit
