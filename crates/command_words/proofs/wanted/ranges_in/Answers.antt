use Rattle.std.proofs.Common.{rules, ◌≡◌, ℕ, List, [], ◌∷◌, ap, sym, ◌∙◌, map}
use Rattle.std.specs.Prelude.{option_map, Some, None}
use Rattle.std.proofs.lemmas.List.{map-append}
use Rattle.wasm_types.specs.declared.range.ByteRange.{ByteRange}
use Rattle.command_words.proofs.Ranges.{range_more, range_none, ranges_done}
use Rattle.command_words.proofs.wanted.ranges_in.Goals as goal

abbrev pair : ByteRange → ℕ × ℕ
pair = λ r. (r.from, r.len)

pub returns-in_default : goal.returns-in_default
returns-in_default c =
    let none : c.range_in.result ≡ None = search rules in
    range_none c.args.texts.now (map pair c.loop-text.ranges.items) _ c.loop-text.text-index _ c.loop-text.invariant c.loop-text-test.true (sym c.range_in.ensures ∙ ap (option_map pair) none)

pub loop-text-preserved : goal.loop-text-preserved
loop-text-preserved c =
    let some : c.range_in.result ≡ Some c.in-Some.range = search rules in
    let more = range_more c.args.texts.now (map pair c.loop-text.ranges.items) (pair c.in-Some.range) _ c.loop-text.text-index _ c.loop-text.invariant c.loop-text-test.true (sym c.range_in.ensures ∙ ap (option_map pair) some) in
    rw c.in_ok-push.ensures.items (rw (map-append pair c.loop-text.ranges.items (c.in-Some.range ∷ [])) more)

pub returns : goal.returns
returns c = ranges_done c.args.texts.now (map pair c.loop-text.ranges.items) _ c.loop-text.text-index c.loop-text.invariant c.loop-text-test.false
