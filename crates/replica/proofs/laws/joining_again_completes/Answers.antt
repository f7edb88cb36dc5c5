use Rattle.replica.proofs.LawLemmas.{again_completes}
use Rattle.replica.proofs.laws.joining_again_completes.Goals as goal

pub returns : goal.returns
returns c = again_completes
