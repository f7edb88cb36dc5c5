use Rattle.std.proofs.Common.{◌≡◌, ◌+◌, length}
use Rattle.std.specs.Vec.Iter.{into_iter_items, into_iter_len}
use Rattle.wasm_record.proofs.sending.send_pieces.Given as goal

-- those that were sent, and those that are left, are all
abbrev pub invariant-loop-piece : goal.invariant-loop-piece
invariant-loop-piece g l =
    (l.sent + length (into_iter_items l.piece-iterator) ≡ length l.fn.pieces.items)
    × (l.count ≡ length l.fn.pieces.items)
    × (into_iter_len l.piece-iterator ≡ length (into_iter_items l.piece-iterator))
