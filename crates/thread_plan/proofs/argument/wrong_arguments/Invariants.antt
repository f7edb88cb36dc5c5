use Rattle.std.proofs.Common.{length}
use Rattle.text_lines.specs.Parts.{parts_left}
use Rattle.thread_plan.proofs.argument.wrong_arguments.Given as goal

abbrev pub decreases-texts : goal.decreases-texts
decreases-texts l = length (parts_left l.texts)
