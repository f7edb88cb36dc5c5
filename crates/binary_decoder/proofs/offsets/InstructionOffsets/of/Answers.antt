use Rattle.std.proofs.Common.{ℕ, List, ap, ◌∙◌, arith}
use Rattle.std.specs.Prelude.{option_and_then}
use Rattle.std.specs.List.{slice_get}
use Rattle.binary_decoder.specs.Names.{whole_items}
use Rattle.binary_decoder.specs.Offsets.{body_offsets_at, code_of}
use Rattle.binary_decoder.proofs.OffsetItems.{number_shrinks, bodies_are}
use Rattle.binary_decoder.proofs.OffsetTable.{item_held}
use Rattle.binary_decoder.proofs.offsets.InstructionOffsets.of.Goals as goal

pub push_bodies-requires-clause-within : goal.push_bodies-requires-clause-within
push_bodies-requires-clause-within c =
    omega (arith, c.in-Some.ensures.within, number_shrinks c.in-Some.code.content.rest.now c.in-Ok.count c.unsigned_32.new.self.rest.now c.in-Ok.ensures.value)

pub returns : goal.returns
returns c function instruction =
    item_held c.push_bodies.new.self (whole_items (body_offsets_at c.in-Some.code.end) c.in-Ok.count c.unsigned_32.new.self.rest.now) function instruction c.in_ok-push_bodies.ensures
    ∙ ap (λ (bodies : List (List ℕ)). option_and_then (λ (offsets : List ℕ). slice_get offsets instruction) (slice_get bodies function))
    (bodies_are (code_of c.args.bytes.now) c.in-Some.code.content.rest.now c.unsigned_32.new.self.rest.now c.in-Some.code.end c.in-Ok.count c.in-Some.ensures.found c.in-Ok.ensures.value)
