-- The pieces so far stand behind those that were there.
use Rattle.std.proofs.Common.{◌≡◌, ◌*◌, ◌++◌, map, drop}
use Rattle.std.specs.List.{range_with_len}
use Rattle.run_pieces.specs.Cut.{piece_at}
use Rattle.run_pieces.proofs.cutting.put_pieces.Given as goal

abbrev pub invariant-loop-index : goal.invariant-loop-index
invariant-loop-index l = record {
  pieces : l.pieces.items ≡ l.initial.pieces.items ++ map (piece_at l.cut.key.now l.cut.thread l.cut.log.now l.cut.size) (range_with_len 0 l.index);
  left : l.entries ≡ drop (l.index * l.cut.size) l.cut.log.now.entries;
}
