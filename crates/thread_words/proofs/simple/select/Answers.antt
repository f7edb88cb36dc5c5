use Rattle.std.proofs.Common.{◌≡◌, ◌-◌, ◌<◌, ◌≤◌, ◌∙◌, ap, sym, subst, get_or, length, arith}
use Rattle.wasm_types.specs.declared.instruction.Instr.TheVariants.{Plain}
use Rattle.wasm_types.specs.declared.instruction.Plain.TheVariants.{Select}
use Rattle.thread_words.specs.Thread.{Local}
use Rattle.thread_words.proofs.Here.{next_fits}
use Rattle.thread_words.proofs.Straight.{select_bits, select_enough, selects}
use Rattle.thread_words.proofs.simple.select.Goals as goal
use Rattle.thread_words.proofs.simple.select.Goals.{then-i32_operand-eq0, else-i32_operand-eq0}

pub i32_operand-requires : goal.i32_operand-requires
i32_operand-requires c = let k = c.requires in let v = select_bits k.0 k.1 k.2.0 (Local k.2.1) c.args.m.now k.2.2 in (k.2.0, v.0, v.1)

pub replace_top-requires-clause-place : goal.replace_top-requires-clause-place
replace_top-requires-clause-place c = let k = c.requires in next_fits k.0 k.1 (Plain Select) k.2.0 (Local k.2.1) c.args.m.now k.2.2

pub replace_top-requires-clause-enough : goal.replace_top-requires-clause-enough
replace_top-requires-clause-enough c = let k = c.requires in select_enough k.0 k.1 k.2.0 (Local k.2.1) c.args.m.now k.2.2

pub returns-clause-steps : goal.returns-clause-steps
returns-clause-steps c = λ m instance s after k.
    let zero : c.i32_operand.result ≡ 0 → c.if-i32_operand-eq0.depth ≡ 1 = λ z. elim c.if-i32_operand-eq0.branch [ then-i32_operand-eq0 w ↦ w.depth-is | else-i32_operand-eq0 w ↦ absurd (w.if-i32_operand-eq0.false z) ] in
    let other : (c.i32_operand.result ≡ 0 → ⊥) → c.if-i32_operand-eq0.depth ≡ 2 = λ z. elim c.if-i32_operand-eq0.branch [ then-i32_operand-eq0 w ↦ absurd (z w.if-i32_operand-eq0.true) | else-i32_operand-eq0 w ↦ w.depth-is ] in
    let read : c.operand-chosen.result ≡ get_or c.args.m.now.words.items (length c.args.m.now.words.items - 1 - c.if-i32_operand-eq0.depth) c.operand-chosen.result =
    c.operand-chosen.ensures ∙ ap (λ y. get_or y (length y - 1 - c.if-i32_operand-eq0.depth) c.operand-chosen.result) c.deref.ensures.value in
    selects m instance s after c.args.m.now c.replace_top.new.m c.i32_operand.result c.operand-chosen.result k (λ v o. c.i32_operand.ensures s v o)
    (λ z. read ∙ ap (λ y. get_or c.args.m.now.words.items (length c.args.m.now.words.items - 1 - y) c.operand-chosen.result) (zero z))
    (λ z. read ∙ ap (λ y. get_or c.args.m.now.words.items (length c.args.m.now.words.items - 1 - y) c.operand-chosen.result) (other z)) c.replace_top.ensures

pub operand-chosen-requires : goal.operand-chosen-requires
operand-chosen-requires c =
    let k = c.requires in
    let n : 3 ≤ length c.args.m.now.words.items = select_enough k.0 k.1 k.2.0 (Local k.2.1) c.args.m.now k.2.2 in
    let d : c.if-i32_operand-eq0.depth ≤ 2 = elim c.if-i32_operand-eq0.branch [ then-i32_operand-eq0 w ↦ let e = w.depth-is in omega arith | else-i32_operand-eq0 w ↦ let e = w.depth-is in omega arith ] in
    subst (λ y. c.if-i32_operand-eq0.depth < length y) (sym c.deref.ensures.value) (omega arith)
