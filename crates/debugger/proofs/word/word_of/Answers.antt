use Rattle.std.proofs.Common.{arith}
use Rattle.debugger.proofs.Padded.{word_is}
use Rattle.debugger.proofs.word.word_of.Goals as goal

pub returns : goal.returns
returns c = word_is c.args.text.now c.copy_from_slice.new.self c.copy_from_slice.ensures.after (omega (arith, c.if-text-gt-LONGEST.false))
