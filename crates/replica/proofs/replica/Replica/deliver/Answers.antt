use Rattle.replica.proofs.LogLemmas.{log_of_more}
use Rattle.replica.proofs.replica.Replica.deliver.Goals as goal

pub returns-in-Ok-clause-log : goal.returns-in-Ok-clause-log
returns-in-Ok-clause-log c pieces log = log_of_more pieces c.args.piece.now c.args.self.now.log c.join_piece.new.self log c.in-Ok.ensures.joined
