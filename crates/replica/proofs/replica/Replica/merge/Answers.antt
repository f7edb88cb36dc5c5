use Rattle.replica.proofs.MergeLemmas.{log_of_both}
use Rattle.replica.proofs.replica.Replica.merge.Goals as goal

pub returns-in-Ok-clause-log : goal.returns-in-Ok-clause-log
returns-in-Ok-clause-log c ps qs mine theirs = log_of_both ps qs c.args.self.now.log c.args.other.now c.join_log.new.self mine theirs c.in-Ok.ensures.joined
