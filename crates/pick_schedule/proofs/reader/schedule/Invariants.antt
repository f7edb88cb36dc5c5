use Rattle.std.proofs.Common.{length}
use Rattle.text_lines.specs.Parts.{parts_left}
use Rattle.pick_schedule.proofs.Lines.{IsReadUpTo}
use Rattle.pick_schedule.proofs.reader.schedule.Given as goal

-- the picks so far, and the lines that are left
abbrev pub invariant-loop-line : goal.invariant-loop-line
invariant-loop-line l = IsReadUpTo l.text l.picks l.number (parts_left l.lines)

abbrev pub decreases-loop-line : goal.decreases-loop-line
decreases-loop-line l = length (parts_left l.lines)
