use Rattle.log_pieces.proofs.LineLaws.{lined_once}
use Rattle.log_pieces.proofs.lines.lines_stand_apart.Goals as goal

pub returns : goal.returns
returns c = lined_once
