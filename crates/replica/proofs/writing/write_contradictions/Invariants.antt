-- The lines of the contradictions so far are written, or wait in the room.
use Rattle.std.proofs.Common.{◌≡◌, ◌≤◌, length, drop}
use Rattle.std.specs.List.{flat_map}
use Rattle.replica.specs.Contradictions.{contradiction_line}
use Rattle.replica.proofs.LinesWritten.{Lines}
use Rattle.replica.proofs.writing.write_contradictions.Given as goal

abbrev pub invariant-loop-contradiction : goal.invariant-loop-contradiction
invariant-loop-contradiction g l = record {
  lines : Lines g.W.Sink.takes l.initial.sink l.initial.room (flat_map contradiction_line l.contradictions) (flat_map contradiction_line (drop l.contradiction-index l.contradictions)) l.sink l.room;
  room : length l.room ≤ 65536;
  same : g.W.Sink.failed l.sink ≡ g.W.Sink.failed l.initial.sink;
}
