use Rattle.std.proofs.Common.{◌≡◌, length}
use Rattle.std.specs.List.{list_all}
use Rattle.text_lines.specs.Parts.{parts_left}
use Rattle.text_lines.specs.Integers.{is_decimal}
use Rattle.thread_plan.proofs.argument.no_integer.Given as goal

-- the texts so far are integers, and those that are left are not tested
abbrev pub invariant-loop-text : goal.invariant-loop-text
invariant-loop-text l = list_all is_decimal (parts_left l.fn.texts) ≡ list_all is_decimal (parts_left l.texts)

abbrev pub decreases-loop-text : goal.decreases-loop-text
decreases-loop-text l = length (parts_left l.texts)
