-- The lines of the threads so far are written, or wait in the room.
use Rattle.std.proofs.Common.{◌≡◌, ◌≤◌, length, drop}
use Rattle.std.specs.List.{flat_map}
use Rattle.log_pieces.specs.Line.{line_of}
use Rattle.replica.proofs.LinesWritten.{Lines}
use Rattle.run_pieces.specs.Cut.{pieces_from, pieces_of}
use Rattle.run_pieces.proofs.line_writing.write_threads.Given as goal

abbrev pub invariant-loop-thread : goal.invariant-loop-thread
invariant-loop-thread g l = record {
  lines : Lines g.W.Sink.takes l.initial.sink l.initial.room (flat_map line_of (pieces_of l.key l.logs l.size)) (flat_map line_of (pieces_from l.key l.thread (drop l.thread l.logs) l.size)) l.sink l.room;
  room : length l.room ≤ 65536;
  same : g.W.Sink.failed l.sink ≡ g.W.Sink.failed l.initial.sink;
}
