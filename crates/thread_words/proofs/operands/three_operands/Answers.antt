use Rattle.std.proofs.Common.{[], ◌∷◌, refl}
use Rattle.std.proofs.Math.Facts.{Fits-of_lt}
use Rattle.wasm_types.specs.declared.value.ValType.TheVariants.{I32}
use Rattle.thread_words.proofs.Held.{held, small_word}
use Rattle.thread_words.proofs.operands.three_operands.Goals as goal

pub overflow_cast-result : goal.overflow_cast-result
overflow_cast-result c =
    let k = c.requires in
    Fits-of_lt (small_word (I32 ∷ k.0 ∷ k.1 ∷ []) k.2.0 c.args.m.now 0 2 c.deref.result.now c.operand.result k.2.1 refl c.deref.ensures.value c.operand.ensures refl)

pub returns-clause-first : goal.returns-clause-first
returns-clause-first c = λ t u vs k. held (I32 ∷ t ∷ u ∷ []) vs c.args.m.now 0 2 c.deref.result.now c.operand.result k refl c.deref.ensures.value c.operand.ensures

pub returns-clause-second : goal.returns-clause-second
returns-clause-second c = λ t u vs k. held (I32 ∷ t ∷ u ∷ []) vs c.args.m.now 1 1 c.deref-2.result.now c.operand-2.result k refl c.deref-2.ensures.value c.operand-2.ensures

pub returns-clause-third : goal.returns-clause-third
returns-clause-third c = λ t u vs k. held (I32 ∷ t ∷ u ∷ []) vs c.args.m.now 2 0 c.deref-3.result.now c.operand-3.result k refl c.deref-3.ensures.value c.operand-3.ensures
