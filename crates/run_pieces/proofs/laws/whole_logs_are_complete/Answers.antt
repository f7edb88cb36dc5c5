use Rattle.run_pieces.proofs.Complete.{whole_logs_are_complete}
use Rattle.run_pieces.proofs.laws.whole_logs_are_complete.Goals as goal

pub returns : goal.returns
returns c = whole_logs_are_complete
