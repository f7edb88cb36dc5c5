-- The bytes so far are those of the digits before.
use Rattle.std.proofs.Common.{◌≡◌, ◌*◌, length, take, drop}
use Rattle.hex.specs.Hex.{decode_pairs}
use Rattle.hex.proofs.Pairs.{prepend}
use Rattle.log_pieces.proofs.digits.put_bytes.Given as goal

abbrev pub invariant-bytes : goal.invariant-bytes
invariant-bytes l = record {
  decoded : decode_pairs 0 l.digits ≡ prepend (take l.i l.out) (decode_pairs (2 * l.i) (drop (2 * l.i) l.digits));
  two : length l.digits ≡ 2 * length l.out;
}
