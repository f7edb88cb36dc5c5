-- The lines of the pieces so far are written, or wait in the room.
use Rattle.std.proofs.Common.{◌≡◌, ◌-◌, ◌*◌, ◌≤◌, length, map, drop}
use Rattle.std.specs.List.{flat_map, range_with_len}
use Rattle.log_pieces.specs.Line.{line_of}
use Rattle.replica.proofs.LinesWritten.{Lines}
use Rattle.run_pieces.specs.Cut.{piece_at, piece_count, thread_pieces}
use Rattle.run_pieces.proofs.line_writing.write_thread.Given as goal

abbrev pub invariant-loop-index : goal.invariant-loop-index
invariant-loop-index g l = record {
  lines : Lines g.W.Sink.takes l.initial.sink l.initial.room (flat_map line_of (thread_pieces l.cut.key.now l.cut.thread l.cut.log.now l.cut.size))
      (flat_map line_of (map (piece_at l.cut.key.now l.cut.thread l.cut.log.now l.cut.size) (range_with_len l.index (piece_count l.cut.size (length l.cut.log.now.entries) - l.index)))) l.sink l.room;
  room : length l.room ≤ 65536;
  same : g.W.Sink.failed l.sink ≡ g.W.Sink.failed l.initial.sink;
  left : l.entries ≡ drop (l.index * l.cut.size) l.cut.log.now.entries;
}
