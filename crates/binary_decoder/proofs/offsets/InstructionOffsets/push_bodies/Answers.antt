use Rattle.std.proofs.Common.{◌-◌, ◌++◌, ◌∷◌, [], ℕ, List, length, ap, subst, arith}
use Rattle.binary_decoder.specs.Fault.{Malformed}
use Rattle.binary_decoder.specs.Reading.{byte_vector_at}
use Rattle.binary_decoder.specs.Names.{whole_items}
use Rattle.binary_decoder.specs.Offsets.{body_offsets_at, locals_of, offsets_behind}
use Rattle.binary_decoder.specs.Kept.{Holds}
use Rattle.binary_decoder.proofs.NameItems.{no_more}
use Rattle.binary_decoder.proofs.OffsetItems.{content_fits, refused, no_item, all_read, one_more, body_read, body_unread}
use Rattle.binary_decoder.proofs.OffsetTable.{holds_more}
use Rattle.binary_decoder.proofs.offsets.InstructionOffsets.push_bodies.Goals as goal

pub returns-in_default : goal.returns-in_default
returns-in_default c =
    let none = no_item (body_offsets_at c.args.end) c.args.count c.loop.counter c.loop.cursor.rest.now Malformed c.loop-test.true
    (body_unread c.args.end c.loop.cursor.rest.now (refused c.loop.cursor.offset c.in_default.field-0 (byte_vector_at c.loop.cursor.rest.now) c.in_default.ensures.refusal c.in_default.ensures.value)) in
    subst (λ (bodies : List (List ℕ)). Holds c.loop.self bodies)
    (all_read (body_offsets_at c.args.end) c.args.count c.loop.counter c.loop.cursor.rest.now c.loop.invariant.1.0 (whole_items (body_offsets_at c.args.end) c.args.count c.args.cursor.now.rest.now) c.loop.invariant.1.2 none)
    c.loop.invariant.1.1

pub overflow_sub-content_end : goal.overflow_sub-content_end
overflow_sub-content_end c =
    omega (arith, c.loop.invariant.0, content_fits c.loop.cursor.rest.now c.in-Ok.content.rest.now c.sized.new.self.rest.now c.in-Ok.ensures.value, ap length c.rest.ensures)

pub push_body-requires : goal.push_body-requires
push_body-requires c =
    omega (arith, c.loop.invariant.0, content_fits c.loop.cursor.rest.now c.in-Ok.content.rest.now c.sized.new.self.rest.now c.in-Ok.ensures.value, ap length c.rest.ensures)

pub loop-preserved : goal.loop-preserved
loop-preserved c =
    let offsets = offsets_behind (c.args.end - length c.sized.new.self.rest.now) (locals_of c.in-Ok.content.rest.now) in (
      omega (arith, c.loop.invariant.0, content_fits c.loop.cursor.rest.now c.in-Ok.content.rest.now c.sized.new.self.rest.now c.in-Ok.ensures.value),
      (
        c.loop.invariant.1.0 ++ offsets ∷ [],
        holds_more c.loop.self c.push_body.new.self c.loop.invariant.1.0 offsets c.loop.invariant.1.1 (rw c.rest.ensures at c.in_ok-push_body.ensures.offsets) c.in_ok-push_body.ensures.starts,
        one_more (body_offsets_at c.args.end) c.args.count c.loop.counter c.loop.cursor.rest.now c.loop.invariant.1.0 (whole_items (body_offsets_at c.args.end) c.args.count c.args.cursor.now.rest.now) c.loop.invariant.1.2
            offsets c.sized.new.self.rest.now c.loop-test.true (body_read c.args.end c.loop.cursor.rest.now c.in-Ok.content.rest.now c.sized.new.self.rest.now c.in-Ok.ensures.value),
      ),
    )

pub returns : goal.returns
returns c =
    subst (λ (bodies : List (List ℕ)). Holds c.loop.self bodies)
    (all_read (body_offsets_at c.args.end) c.args.count c.loop.counter c.loop.cursor.rest.now c.loop.invariant.1.0 (whole_items (body_offsets_at c.args.end) c.args.count c.args.cursor.now.rest.now) c.loop.invariant.1.2
    (no_more (body_offsets_at c.args.end) c.args.count c.loop.counter c.loop.cursor.rest.now c.loop-test.false))
    c.loop.invariant.1.1
