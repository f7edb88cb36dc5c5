use Rattle.std.proofs.Common.{◌++◌, ◌∷◌, [], length, arith}
use Rattle.binary_decoder.specs.Names.{whole_items}
use Rattle.binary_decoder.specs.Offsets.{offset_at}
use Rattle.binary_decoder.proofs.NameItems.{no_more}
use Rattle.binary_decoder.proofs.OffsetItems.{offset_shrinks, stops, all_read, one_more}
use Rattle.binary_decoder.proofs.code_parts.push_instructions.Goals as goal

pub returns-in-Err : goal.returns-in-Err
returns-in-Err c =
    all_read (offset_at c.args.end) (length c.rest-most.result.now) c.loop.counter c.loop.cursor.rest.now c.loop.offsets.items (c.args.offsets.now.items ++ whole_items (offset_at c.args.end) (length c.args.cursor.now.rest.now) c.args.cursor.now.rest.now) c.loop.invariant.1
    (stops (offset_at c.args.end) (length c.rest-most.result.now) c.loop.counter c.loop.cursor.rest.now c.in-Err.fault c.loop-test.true c.in_ok-pass_no_memory-in-Err.ensures c.in-Err.ensures)

pub loop-preserved : goal.loop-preserved
loop-preserved c = (
  omega (arith, c.loop.invariant.0, offset_shrinks c.args.end c.loop.cursor.rest.now c.in-Ok.offset c.next_offset.new.cursor.rest.now c.in-Ok.ensures),
  rw c.in_ok-push-in-Ok.ensures.items (one_more (offset_at c.args.end) (length c.rest-most.result.now) c.loop.counter c.loop.cursor.rest.now c.loop.offsets.items (c.args.offsets.now.items ++ whole_items (offset_at c.args.end) (length c.args.cursor.now.rest.now) c.args.cursor.now.rest.now) c.loop.invariant.1
      c.in-Ok.offset c.next_offset.new.cursor.rest.now c.loop-test.true c.in-Ok.ensures),
)

pub returns : goal.returns
returns c =
    all_read (offset_at c.args.end) (length c.rest-most.result.now) c.loop.counter c.loop.cursor.rest.now c.loop.offsets.items (c.args.offsets.now.items ++ whole_items (offset_at c.args.end) (length c.args.cursor.now.rest.now) c.args.cursor.now.rest.now) c.loop.invariant.1
    (no_more (offset_at c.args.end) (length c.rest-most.result.now) c.loop.counter c.loop.cursor.rest.now c.loop-test.false)
