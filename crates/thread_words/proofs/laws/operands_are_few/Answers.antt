use Rattle.thread_words.proofs.Few.{operands_are_few}
use Rattle.thread_words.proofs.laws.operands_are_few.Goals as goal

pub returns : goal.returns
returns c = operands_are_few
