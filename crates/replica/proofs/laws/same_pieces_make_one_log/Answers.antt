use Rattle.replica.proofs.LawLemmas.{one_log}
use Rattle.replica.proofs.laws.same_pieces_make_one_log.Goals as goal

pub returns : goal.returns
returns c = one_log
