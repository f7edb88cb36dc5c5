use Rattle.std.proofs.Common.{refl}
use Rattle.std.proofs.Math.Facts.{Fits-of_lt}
use Rattle.wasm_types.specs.declared.value.ValType.TheVariants.{I32}
use Rattle.thread_words.proofs.Reading.{is_there, small_word, reads_value}
use Rattle.thread_words.proofs.operands.i32_operand.Goals as goal

pub operand-requires : goal.operand-requires
operand-requires c = let k = c.requires in is_there I32 c.args.depth c.args.m.now k.0 k.1 c.deref.result.now k.2 c.deref.ensures.value

pub overflow_cast-result : goal.overflow_cast-result
overflow_cast-result c = let k = c.requires in Fits-of_lt (small_word I32 c.args.depth c.args.m.now k.0 k.1 c.deref.result.now c.operand.result k.2 c.deref.ensures.value c.operand.ensures refl)

pub returns : goal.returns
returns c = λ s v k. reads_value I32 c.args.depth c.args.m.now s v c.deref.result.now c.operand.result k c.deref.ensures.value c.operand.ensures
