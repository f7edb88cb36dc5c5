use Rattle.std.proofs.lemmas.Bool.{cases_lt}
use Rattle.std.proofs.Common.{ℕ, ◌<◌, inl, inr, rules, arith, ◌≡◌, ◌+◌, ◌≤◌, ◌∙◌, List, length, get_or, take, ap}
use Rattle.std.proofs.lemmas.List.{length-replicate}
use Rattle.std.proofs.lemmas.List.Folds.{length-flat_map-take}
use Rattle.wasm_types.specs.declared.modules.LocalGroup.{LocalGroup}
use Rattle.wasm_types.specs.declared.value.ValType.TheVariants.{I32}
use Rattle.wasm_types.specs.Locals.{locals_in, locals_of}
use Rattle.thread_words.proofs.calls.declared_locals.Goals as goal

pub returns-in_default-clause-err : goal.returns-in_default-clause-err
returns-in_default-clause-err c =
    let all : List LocalGroup = c.args.body.now.locals in
    let i = c.loop-group.group-index in
    let none : LocalGroup = record { count = 0; val_type = I32 } in
    let within = c.loop-group-test.true in
    let same : c.as_slice-group-items.result.now ≡ all = c.as_slice-group-items.ensures in
    let more : length (locals_of (take i all)) + length (locals_in (get_or all i none)) ≤ length (locals_of all) = length-flat_map-take locals_in all i none (search rules) in
    let size : length (locals_in (get_or all i none)) ≡ (get_or all i none).count = length-replicate (get_or all i none).count (get_or all i none).val_type in
    let so_far : c.loop-group.count ≡ length (locals_of (take i all)) = c.loop-group.invariant ∙ ap (λ x. length (locals_of (take i x))) same in
    let here : get_or c.as_slice-group-items.result.now i none ≡ get_or all i none = ap (λ x. get_or x i none) same in
    let count : (get_or c.as_slice-group-items.result.now i none).count ≡ (get_or all i none).count = ap (λ (g : LocalGroup). g.count) here in
    let no = c.in_default.ensures in
    let big : 18446744073709551616 ≤ c.loop-group.count + (get_or c.as_slice-group-items.result.now i none).count = at_least _ _ no in
    omega (arith, more, size, so_far, big, count)
  where
    at_least : (a b : ℕ) → (a < b → ⊥) → b ≤ a
    at_least a b h = elim (cases_lt a b) [ inl l ↦ absurd (h l) | inr l ↦ l ]
