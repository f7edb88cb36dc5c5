use Rattle.run_pieces.proofs.Joining.{covering_pieces_make_the_log}
use Rattle.run_pieces.proofs.laws.covering_pieces_make_the_log.Goals as goal

pub returns : goal.returns
returns c = covering_pieces_make_the_log
