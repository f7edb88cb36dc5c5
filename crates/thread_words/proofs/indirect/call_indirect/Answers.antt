use Rattle.std.proofs.Common.{◌∙◌, Some, None, refl, sym, ap}
use Rattle.std.proofs.lemmas.Result.{on_ok_weaker}
use Rattle.wasm_types.specs.declared.value.Value.TheVariants as value
use Rattle.wasm_types.specs.declared.trap.Trap.TheVariants.{UndefinedElement, UninitializedElement}
use Rattle.wasm_types.specs.declared.instruction.Instr.TheVariants as instr
use Rattle.thread_words.specs.Thread.{Local}
use Rattle.thread_words.specs.Words.{instance_at}
use Rattle.thread_words.proofs.Here.{acts_here}
use Rattle.thread_words.proofs.Straight.{stops}
use Rattle.thread_words.proofs.Entering.{through, at_element, element_function, calling_through, mismatch}
use Rattle.thread_words.proofs.indirect.call_indirect.Goals as goal

pub i32_operand-at-requires : goal.i32_operand-at-requires
i32_operand-at-requires c = let k = c.requires in let t = through c.args.valid.now (instance_at c.args.instance.now) c.args.index k.0 (Local k.1) c.args.m.now k.2 in (k.0, value.I32 t.by.bits, t.by.there)

pub has_type-requires : goal.has_type-requires
has_type-requires c =
    let k = c.requires in
    let t = element_function c.args.valid.now (instance_at c.args.instance.now) c.args.index k.0 (Local k.1) c.args.m.now c.i32_operand-at.result c.in-Some-element.function c.element_at.result k.2 (λ s v o. c.i32_operand-at.ensures s v o) c.element_at.ensures (c.in-Some.is ∙ ap Some c.in-Some-element.is) in
    (t.its, t.kind, t.types)

pub call_function-requires : goal.call_function-requires
call_function-requires c =
    let k = c.requires in
    let t = element_function c.args.valid.now (instance_at c.args.instance.now) c.args.index k.0 (Local k.1) c.args.m.now c.i32_operand-at.result c.in-Some-element.function c.element_at.result k.2 (λ s v o. c.i32_operand-at.ensures s v o) c.element_at.ensures (c.in-Some.is ∙ ap Some c.in-Some-element.is) in
    (k.0, k.1, calling_through c.args.valid.now (instance_at c.args.instance.now) c.args.index k.0 k.1 c.args.m.now c.in-Some-element.function k.2 t (sym (c.has_type.ensures t.its t.kind t.types) ∙ c.if-has_type.true))

pub returns-then-has_type-clause-ok : goal.returns-then-has_type-clause-ok
returns-then-has_type-clause-ok c = on_ok_weaker c.call_function.result (λ p s after k.
    let t = element_function c.args.valid.now (instance_at c.args.instance.now) c.args.index s (Local after) c.args.m.now c.i32_operand-at.result c.in-Some-element.function c.element_at.result k (λ s v o. c.i32_operand-at.ensures s v o) c.element_at.ensures (c.in-Some.is ∙ ap Some c.in-Some-element.is) in
    p s after (calling_through c.args.valid.now (instance_at c.args.instance.now) c.args.index s after c.args.m.now c.in-Some-element.function k t (sym (c.has_type.ensures t.its t.kind t.types) ∙ c.if-has_type.true))) c.call_function.ensures.ok

pub returns-in-None-clause-ok : goal.returns-in-None-clause-ok
returns-in-None-clause-ok c = λ s after k.
    let a = acts_here c.args.valid.now (instance_at c.args.instance.now) (instr.CallIndirect c.args.index) s (Local after) c.args.m.now k in
    let t = at_element c.args.valid.now (instance_at c.args.instance.now) c.args.index s (Local after) c.args.m.now c.i32_operand-at.result None k (λ s v o. c.i32_operand-at.ensures s v o) (sym c.in-None.is ∙ c.element_at.ensures) in
    stops c.args.valid.now s a.next UndefinedElement after _ t.1 a.moves refl

pub returns-in-None-element-clause-ok : goal.returns-in-None-element-clause-ok
returns-in-None-element-clause-ok c = λ s after k.
    let a = acts_here c.args.valid.now (instance_at c.args.instance.now) (instr.CallIndirect c.args.index) s (Local after) c.args.m.now k in
    let t = at_element c.args.valid.now (instance_at c.args.instance.now) c.args.index s (Local after) c.args.m.now c.i32_operand-at.result (Some None) k (λ s v o. c.i32_operand-at.ensures s v o) (sym (c.in-Some.is ∙ ap Some c.in-None-element.is) ∙ c.element_at.ensures) in
    stops c.args.valid.now s a.next UninitializedElement after _ t.1 a.moves refl

pub returns-else-has_type-clause-ok : goal.returns-else-has_type-clause-ok
returns-else-has_type-clause-ok c = λ s after k.
    let t = element_function c.args.valid.now (instance_at c.args.instance.now) c.args.index s (Local after) c.args.m.now c.i32_operand-at.result c.in-Some-element.function c.element_at.result k (λ s v o. c.i32_operand-at.ensures s v o) c.element_at.ensures (c.in-Some.is ∙ ap Some c.in-Some-element.is) in
    mismatch c.args.valid.now (instance_at c.args.instance.now) c.args.index s after c.args.m.now _ c.in-Some-element.function k t (sym (c.has_type.ensures t.its t.kind t.types) ∙ c.if-has_type.false) refl
