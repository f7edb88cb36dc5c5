-- A list of at most one touch rises.
use Rattle.std.proofs.Common.{◌≡◌, ◌<◌, length, true, List, [], ◌∷◌, refl, arith}
use Rattle.log_pieces.specs.Piece.{rises}
use Rattle.rw_objects.specs.declared.touch.Found.{Found}
use Rattle.log_pieces.proofs.piece.+rises.Goals as goal

short : (found : List Found) → length found < 2 → true ≡ rises found
short [] h = refl
short (x ∷ []) h = refl
short (x ∷ y ∷ rest) h = absurd (omega arith)

pub returns-in_default : goal.returns-in_default
returns-in_default t c = short c.args.found.now c.in_default.len_below
