use Rattle.run_pieces.proofs.Joining.{joined_logs_are_below}
use Rattle.run_pieces.proofs.laws.joined_logs_are_below.Goals as goal

pub returns : goal.returns
returns c = joined_logs_are_below
