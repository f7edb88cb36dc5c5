use Rattle.std.proofs.Common.{◌∙◌}
use Rattle.thread_words.proofs.Reading.{is_there, small_word, reads_value}
use Rattle.thread_words.proofs.operands.typed_operand.Goals as goal

pub operand-requires : goal.operand-requires
operand-requires c = let k = c.requires in is_there c.args.t c.args.depth c.args.m.now k.0 k.1 c.deref.result.now k.2 c.deref.ensures.value

pub value-requires : goal.value-requires
value-requires c = let k = c.requires in small_word c.args.t c.args.depth c.args.m.now k.0 k.1 c.deref.result.now c.operand.result k.2 c.deref.ensures.value c.operand.ensures

pub returns : goal.returns
returns c = λ s v k. c.value.ensures ∙ reads_value c.args.t c.args.depth c.args.m.now s v c.deref.result.now c.operand.result k c.deref.ensures.value c.operand.ensures
