use Rattle.log_pieces.proofs.Pieces.{spelled_once}
use Rattle.log_pieces.proofs.reading.spellings_stand_apart.Goals as goal

pub returns : goal.returns
returns c = spelled_once
