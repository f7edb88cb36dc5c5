use Rattle.log_pieces.proofs.LineLaws.{ends_once}
use Rattle.log_pieces.proofs.lines.lines_end_once.Goals as goal

pub returns : goal.returns
returns c = ends_once
