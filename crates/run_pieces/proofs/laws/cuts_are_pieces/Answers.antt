use Rattle.run_pieces.proofs.Cuts.{cuts_are_pieces}
use Rattle.run_pieces.proofs.laws.cuts_are_pieces.Goals as goal

pub returns : goal.returns
returns c = cuts_are_pieces
