use Rattle.std.proofs.Common.{length}
use Rattle.binary_decoder.specs.Names.{part_at, parts_of, first_content}
use Rattle.binary_decoder.proofs.NameItems.{damaged, no_more, nothing_behind, found, passed}
use Rattle.binary_decoder.proofs.name_parts.first_content.Goals as goal

pub returns-in_default : goal.returns-in_default
returns-in_default c =
    nothing_behind c.args.wanted (length c.rest-end.result.now) c.loop.counter c.loop.left.rest.now (first_content c.args.wanted (parts_of c.args.parts.now.rest.now)) c.loop.invariant
    (damaged part_at (length c.rest-end.result.now) c.loop.counter c.loop.left.rest.now c.in_default.field-0 c.loop-test.true c.in_default.ensures.refusal c.in_default.ensures.value)

pub returns-in-Some : goal.returns-in-Some
returns-in-Some c =
    found c.args.wanted (length c.rest-end.result.now) c.loop.counter c.loop.left.rest.now (first_content c.args.wanted (parts_of c.args.parts.now.rest.now)) c.loop.invariant
    (c.in-Ok.part.id, c.in-Ok.part.content.rest.now) c.next_part.new.cursor.rest.now c.in-Some.content.rest.now c.loop-test.true c.in-Ok.ensures.value c.in-Some.ensures

pub loop-preserved : goal.loop-preserved
loop-preserved c =
    passed c.args.wanted (length c.rest-end.result.now) c.loop.counter c.loop.left.rest.now (first_content c.args.wanted (parts_of c.args.parts.now.rest.now)) c.loop.invariant
    (c.in-Ok.part.id, c.in-Ok.part.content.rest.now) c.next_part.new.cursor.rest.now c.loop-test.true c.in-Ok.ensures.value c.in_default-content_of.ensures

pub returns : goal.returns
returns c =
    nothing_behind c.args.wanted (length c.rest-end.result.now) c.loop.counter c.loop.left.rest.now (first_content c.args.wanted (parts_of c.args.parts.now.rest.now)) c.loop.invariant
    (no_more part_at (length c.rest-end.result.now) c.loop.counter c.loop.left.rest.now c.loop-test.false)
