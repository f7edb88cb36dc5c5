use Rattle.std.proofs.Common.{vec_len}
use Rattle.replica.specs.Log.{log_of}
use Rattle.commands.proofs.Delivering.{AreLeft}
use Rattle.commands.proofs.run_notes.log_of_recording.Given as goal

abbrev pub invariant-loop-piece : goal.invariant-loop-piece
invariant-loop-piece l = AreLeft l.recording.key l.initial.pieces.items l.pieces.items (log_of l.replica)

abbrev pub decreases-loop-piece : goal.decreases-loop-piece
decreases-loop-piece l = vec_len l.pieces
