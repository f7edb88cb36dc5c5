use Rattle.replica.proofs.MergeLemmas.{merging_completes}
use Rattle.replica.proofs.laws.merging_again_completes.Goals as goal

pub returns : goal.returns
returns c = merging_completes
