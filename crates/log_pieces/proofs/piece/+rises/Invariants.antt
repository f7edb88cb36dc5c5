use Rattle.std.proofs.Common.{length}
use Rattle.log_pieces.proofs.piece.+rises.Given as goal

abbrev pub decreases-rises : goal.decreases-rises
decreases-rises l = length l.found.now
