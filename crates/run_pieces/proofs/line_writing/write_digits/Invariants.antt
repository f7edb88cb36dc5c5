-- The digits so far are written, or wait in the room.
use Rattle.std.proofs.Common.{◌≡◌, ◌≤◌, length}
use Rattle.hex.specs.Hex.{encode_lower}
use Rattle.replica.proofs.LinesWritten.{Lines}
use Rattle.run_pieces.proofs.line_writing.write_digits.Given as goal

abbrev pub invariant-loop-rest : goal.invariant-loop-rest
invariant-loop-rest g l = record {
  lines : Lines g.W.Sink.takes l.initial.sink l.initial.room (encode_lower l.bytes) (encode_lower l.rest) l.sink l.room;
  room : length l.room ≤ 65792;
  same : g.W.Sink.failed l.sink ≡ g.W.Sink.failed l.initial.sink;
}

abbrev pub decreases-loop-rest : goal.decreases-loop-rest
decreases-loop-rest g l = length l.rest
