use Rattle.std.proofs.Common.{◌≡◌, length}
use Rattle.std.specs.List.{list_any}
use Rattle.text_lines.specs.Parts.{lines, parts_left}
use Rattle.commands.specs.Signs.{is_sign}
use Rattle.commands.proofs.signs.has_sign.Given as goal

abbrev pub invariant-loop-line : goal.invariant-loop-line
invariant-loop-line l = list_any (is_sign l.signs.faults l.signs.texts.now) (lines l.report) ≡ list_any (is_sign l.signs.faults l.signs.texts.now) (parts_left l.lines)

abbrev pub decreases-loop-line : goal.decreases-loop-line
decreases-loop-line l = length (parts_left l.lines)
