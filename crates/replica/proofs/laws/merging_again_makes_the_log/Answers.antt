use Rattle.replica.proofs.MergeLemmas.{log_of_both, merging_completes}
use Rattle.replica.proofs.laws.merging_again_makes_the_log.Goals as goal

pub returns : goal.returns
returns c = λ ps qs old other part new thread count mine theirs first second.
    log_of_both ps qs old other new mine theirs (merging_completes old other part new thread count first second)
