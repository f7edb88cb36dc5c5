use Rattle.replica.proofs.LogLemmas.{log_of_more}
use Rattle.replica.proofs.LawLemmas.{again_completes}
use Rattle.replica.proofs.laws.joining_again_makes_the_log.Goals as goal

pub returns : goal.returns
returns c = λ ps old part new piece count log first second. log_of_more ps piece old new log (again_completes old part new piece count first second)
