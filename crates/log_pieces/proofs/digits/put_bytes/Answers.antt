-- One byte more is made.
use Rattle.std.proofs.Common.{◌*◌, arith}
use Rattle.std.proofs.lemmas.List.{length-set}
use Rattle.hex.proofs.Pairs.{decode_step, decode_done}
use Rattle.log_pieces.proofs.digits.put_bytes.Goals as goal

pub bytes-preserved : goal.bytes-preserved
bytes-preserved c =
    let len = length-set c.bytes.out c.bytes.i c.byte_of.result in
    record {
      decoded = decode_step c.args.digits.now c.bytes.out c.bytes.i c.byte_of.result (omega (arith, c.requires.two, c.bytes-test.true)) (omega (arith, c.requires.two, c.bytes.invariant.two, c.bytes-test.true)) (c.byte_of.ensures (2 * c.bytes.i)) c.bytes.invariant.decoded;
      two = omega (arith, len, c.bytes.invariant.two);
    }

pub returns : goal.returns
returns c = decode_done c.args.digits.now c.bytes.out c.bytes.i (omega (arith, c.requires.two, c.bytes.invariant.two, c.bytes-test.false)) (omega (arith, c.requires.two, c.bytes-test.false)) c.bytes.invariant.decoded
