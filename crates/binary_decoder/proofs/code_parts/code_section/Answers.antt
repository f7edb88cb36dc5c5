use Rattle.std.proofs.Common.{length, ap, arith}
use Rattle.binary_decoder.specs.Offsets.{section_end_at, code_of}
use Rattle.binary_decoder.proofs.NameItems.{no_more}
use Rattle.binary_decoder.proofs.OffsetItems.{part_fits, no_code, no_section, code_found, other_section}
use Rattle.binary_decoder.proofs.code_parts.code_section.Goals as goal

pub returns-in_default-clause-found : goal.returns-in_default-clause-found
returns-in_default-clause-found c =
    no_section (length c.args.bytes.now) (length c.rest-most.result.now) c.loop.counter c.loop.left.rest.now (code_of c.args.bytes.now) c.loop.invariant.1 c.in_default.field-0 c.loop-test.true c.in_default.ensures.refusal c.in_default.ensures.value

pub overflow_sub-end : goal.overflow_sub-end
overflow_sub-end c =
    omega (arith, c.loop.invariant.0, part_fits c.loop.left.rest.now (c.in-Ok.part.id, c.in-Ok.part.content.rest.now) c.next_part.new.cursor.rest.now c.in-Ok.ensures.value, ap length c.rest.ensures)

pub returns-then-part-eq-CODE-clause-found : goal.returns-then-part-eq-CODE-clause-found
returns-then-part-eq-CODE-clause-found c =
    rw c.rest.ensures (code_found (length c.args.bytes.now) (length c.rest-most.result.now) c.loop.counter c.loop.left.rest.now (code_of c.args.bytes.now) c.loop.invariant.1
    (c.in-Ok.part.id, c.in-Ok.part.content.rest.now) c.next_part.new.cursor.rest.now c.loop-test.true c.in-Ok.ensures.value c.if-part-eq-CODE.true)

pub returns-then-part-eq-CODE-clause-within : goal.returns-then-part-eq-CODE-clause-within
returns-then-part-eq-CODE-clause-within c =
    omega (arith, c.loop.invariant.0, part_fits c.loop.left.rest.now (c.in-Ok.part.id, c.in-Ok.part.content.rest.now) c.next_part.new.cursor.rest.now c.in-Ok.ensures.value, ap length c.rest.ensures)

pub loop-preserved : goal.loop-preserved
loop-preserved c = (
  omega (arith, c.loop.invariant.0, part_fits c.loop.left.rest.now (c.in-Ok.part.id, c.in-Ok.part.content.rest.now) c.next_part.new.cursor.rest.now c.in-Ok.ensures.value),
  other_section (length c.args.bytes.now) (length c.rest-most.result.now) c.loop.counter c.loop.left.rest.now (code_of c.args.bytes.now) c.loop.invariant.1
      (c.in-Ok.part.id, c.in-Ok.part.content.rest.now) c.next_part.new.cursor.rest.now c.loop-test.true c.in-Ok.ensures.value c.if-part-eq-CODE.false,
)

pub returns-clause-found : goal.returns-clause-found
returns-clause-found c =
    no_code (length c.args.bytes.now) (length c.rest-most.result.now) c.loop.counter c.loop.left.rest.now (code_of c.args.bytes.now) c.loop.invariant.1
    (no_more (section_end_at (length c.args.bytes.now)) (length c.rest-most.result.now) c.loop.counter c.loop.left.rest.now c.loop-test.false)
