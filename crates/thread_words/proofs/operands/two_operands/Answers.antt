use Rattle.std.proofs.Common.{[], ◌∷◌, refl}
use Rattle.std.proofs.Math.Facts.{Fits-of_lt}
use Rattle.wasm_types.specs.declared.value.ValType.TheVariants.{I32}
use Rattle.thread_words.proofs.Held.{held, small_word}
use Rattle.thread_words.proofs.operands.two_operands.Goals as goal

pub overflow_cast-result : goal.overflow_cast-result
overflow_cast-result c = let k = c.requires in Fits-of_lt (small_word (I32 ∷ k.0 ∷ []) k.1.0 c.args.m.now 0 1 c.deref.result.now c.operand.result k.1.1 refl c.deref.ensures.value c.operand.ensures refl)

pub returns-clause-first : goal.returns-clause-first
returns-clause-first c = λ t vs k. held (I32 ∷ t ∷ []) vs c.args.m.now 0 1 c.deref.result.now c.operand.result k refl c.deref.ensures.value c.operand.ensures

pub returns-clause-second : goal.returns-clause-second
returns-clause-second c = λ t vs k. held (I32 ∷ t ∷ []) vs c.args.m.now 1 0 c.deref-2.result.now c.operand-2.result k refl c.deref-2.ensures.value c.operand-2.ensures
