use Rattle.std.proofs.Common.{◌∙◌, refl, sym, ap}
use Rattle.std.proofs.lemmas.Result.{on_ok_weaker}
use Rattle.wasm_types.specs.declared.value.Value.TheVariants as value
use Rattle.wasm_types.specs.declared.instruction.Instr.TheVariants as instr
use Rattle.wasm_types.specs.declared.instruction.BlockKind.TheVariants.{If}
use Rattle.thread_words.specs.Thread.{Local}
use Rattle.thread_words.proofs.Here.{next_fits}
use Rattle.thread_words.proofs.Opening.{choosing, if_enters}
use Rattle.thread_words.proofs.blocks.choose.Goals as goal

pub i32_operand-requires : goal.i32_operand-requires
i32_operand-requires c = let k = c.requires in let p = choosing c.args.valid.now k.1.0 k.0 k.1.1.0 (Local k.1.1.1) c.args.m.now k.1.1.2 in (k.1.1.0, value.I32 p.bits, p.there)

pub skip_first_arm-requires-clause-zero : goal.skip_first_arm-requires-clause-zero
skip_first_arm-requires-clause-zero c = λ s v o. ap (λ y. value.I32 y) (sym c.if-i32_operand-eq0.true) ∙ c.i32_operand.ensures s v o

pub enter-requires-clause-enough : goal.enter-requires-clause-enough
enter-requires-clause-enough c = let k = c.requires in (choosing c.args.valid.now k.1.0 k.0 k.1.1.0 (Local k.1.1.1) c.args.m.now k.1.1.2).enough

pub enter-requires-clause-fits : goal.enter-requires-clause-fits
enter-requires-clause-fits c = let k = c.requires in next_fits c.args.valid.now k.1.0 (instr.Block If k.0) k.1.1.0 (Local k.1.1.1) c.args.m.now k.1.1.2

pub returns-clause-ok : goal.returns-clause-ok
returns-clause-ok c = on_ok_weaker c.enter.result
    (λ p t instance s after k. if_enters c.args.valid.now instance t s after c.args.m.now c.enter.new.m c.args.m.now.here.place c.i32_operand.result k refl (λ s v o. c.i32_operand.ensures s v o) c.if-i32_operand-eq0.false p) c.enter.ensures.ok
