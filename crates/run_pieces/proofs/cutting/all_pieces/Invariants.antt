-- The pieces so far, and then those of the threads that are left, are the pieces of all.
use Rattle.std.proofs.Common.{◌≡◌, ◌++◌, drop}
use Rattle.run_pieces.specs.Cut.{pieces_from, pieces_of}
use Rattle.run_pieces.proofs.cutting.all_pieces.Given as goal

abbrev pub invariant-loop-thread : goal.invariant-loop-thread
invariant-loop-thread l = l.pieces.items ++ pieces_from l.key l.thread (drop l.thread l.logs) l.size ≡ pieces_of l.key l.logs l.size
