use Rattle.std.proofs.Common.{rules, arith, ◌≡◌, ℕ, ◌<◌, ◌+◌, ◌-◌, ◌≤◌, ◌^◌, length, get_or, subst, sym, ap, take, drop, ◌∙◌, map, ◌++◌}
use Rattle.std.specs.List.{All}
use Rattle.wasm_types.specs.declared.modules.LocalGroup.{LocalGroup}
use Rattle.wasm_types.specs.declared.value.ValType.TheVariants.{I32}
use Rattle.wasm_types.specs.Values.{value_of}
use Rattle.integer_machine.proofs.Typed.{GroupsSoFar, past_within, words_small, groups_more}
use Rattle.integer_machine.proofs.values.push_groups.Goals as goal

pub slice_bounds-push_values-end : goal.slice_bounds-push_values-end
slice_bounds-push_values-end c =
    let h : c.loop-group.first + (get_or c.args.groups.now c.loop-group.group-index (record { count = 0; val_type = I32 })).count ≤ length c.args.words.now =
    past_within c.args.groups.now c.args.words.now c.loop-group.group-index c.loop-group.first (record { count = 0; val_type = I32 }) c.args.values.now.items c.loop-group.values.items c.loop-group-test.true c.loop-group.invariant in
    search (rules, h)

more_less : (a b : ℕ) → a + b - a ≡ b
more_less a b = omega arith

pub push_values-requires : goal.push_values-requires
push_values-requires c e =
    let g : LocalGroup = record { count = 0; val_type = I32 } in
    let first = c.loop-group.first in
    let n = (get_or c.args.groups.now c.loop-group.group-index g).count in
    subst (λ x. All (λ w. w < 2 ^ 32) (take x (drop first c.args.words.now))) (sym (more_less first n))
    (words_small c.args.groups.now c.args.words.now c.loop-group.group-index first g c.args.values.now.items c.loop-group.values.items c.loop-group-test.true c.loop-group.invariant e)

pub loop-group-preserved : goal.loop-group-preserved
loop-group-preserved c =
    let g : LocalGroup = record { count = 0; val_type = I32 } in
    let groups = c.args.groups.now in
    let words = c.args.words.now in
    let i = c.loop-group.group-index in
    let first = c.loop-group.first in
    let n = (get_or groups i g).count in
    let t = (get_or groups i g).val_type in
    let old = c.loop-group.values.items in
    let new : c.push_values.new.values.items ≡ old ++ map (value_of t) (take n (drop first words)) =
    c.in_ok-push_values.ensures ∙ ap (λ x. old ++ map (value_of t) (take x (drop first words))) (more_less first n) in
    subst (GroupsSoFar groups words (i + 1) (first + n) c.args.values.now.items) (sym new)
    (groups_more groups words i first g c.args.values.now.items old c.loop-group-test.true c.loop-group.invariant)
