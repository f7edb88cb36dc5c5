use Rattle.std.proofs.Common.{◌∙◌, reverse}
use Rattle.std.specs.Prelude.{string_bytes}
use Rattle.debugger.specs.Locals.{operand_line}
use Rattle.debugger.proofs.Numbered.{lines_more}
use Rattle.debugger.proofs.locals.write_operands.Goals as goal

pub loop-number-preserved : goal.loop-number-preserved
loop-number-preserved c = c.in_ok-write_operand.ensures ∙ lines_more operand_line (string_bytes c.args.text.now) (string_bytes c.loop-number.text) c.loop-number.number (reverse c.args.words.now) c.loop-number.invariant
