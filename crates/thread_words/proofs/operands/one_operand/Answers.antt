use Rattle.std.proofs.Common.{[], ◌∷◌, refl}
use Rattle.std.proofs.Math.Facts.{Fits-of_lt}
use Rattle.wasm_types.specs.declared.value.ValType.TheVariants.{I32}
use Rattle.thread_words.proofs.Held.{held, small_word}
use Rattle.thread_words.proofs.operands.one_operand.Goals as goal

pub overflow_cast-result : goal.overflow_cast-result
overflow_cast-result c = let k = c.requires in Fits-of_lt (small_word (I32 ∷ []) k.0 c.args.m.now 0 0 c.deref.result.now c.operand.result k.1 refl c.deref.ensures.value c.operand.ensures refl)

pub returns : goal.returns
returns c = λ vs k. held (I32 ∷ []) vs c.args.m.now 0 0 c.deref.result.now c.operand.result k refl c.deref.ensures.value c.operand.ensures
