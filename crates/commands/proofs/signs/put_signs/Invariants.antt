use Rattle.std.proofs.Common.{◌≡◌, ◌++◌, length}
use Rattle.text_lines.specs.Parts.{lines, parts_left}
use Rattle.commands.specs.Signs.{signs_in}
use Rattle.commands.proofs.signs.put_signs.Given as goal

abbrev pub invariant-loop-line : goal.invariant-loop-line
invariant-loop-line l = l.text.items ++ signs_in l.signs.faults l.signs.texts.now (parts_left l.lines) ≡ l.initial.text.items ++ signs_in l.signs.faults l.signs.texts.now (lines l.report)

abbrev pub decreases-loop-line : goal.decreases-loop-line
decreases-loop-line l = length (parts_left l.lines)
