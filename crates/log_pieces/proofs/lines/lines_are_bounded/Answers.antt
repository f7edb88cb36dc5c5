use Rattle.log_pieces.proofs.Lengths.{length-line}
use Rattle.log_pieces.proofs.lines.lines_are_bounded.Goals as goal

pub returns : goal.returns
returns c = λ p line l. length-line line p l
