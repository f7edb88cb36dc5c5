use Rattle.std.proofs.Common.{refl}
use Rattle.std.proofs.Math.Facts.{Fits-of_lt}
use Rattle.wasm_types.specs.declared.value.ValType.TheVariants.{I32}
use Rattle.thread_words.proofs.Reading.{is_there, small_word, reads_value}
use Rattle.thread_words.proofs.operands.i32_on_top.Goals as goal

pub operand-requires : goal.operand-requires
operand-requires c = let k = c.requires in is_there I32 0 k.0 k.2.0 k.2.1 c.args.words.now k.2.2 k.1

pub overflow_cast-result : goal.overflow_cast-result
overflow_cast-result c = let k = c.requires in Fits-of_lt (small_word I32 0 k.0 k.2.0 k.2.1 c.args.words.now c.operand.result k.2.2 k.1 c.operand.ensures refl)

pub returns : goal.returns
returns c = λ m e s v k. reads_value I32 0 m s v c.args.words.now c.operand.result k e c.operand.ensures
