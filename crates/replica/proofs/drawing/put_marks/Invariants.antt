-- The touches so far and those that are left are all.
use Rattle.std.proofs.Common.{◌≡◌, ◌++◌, true, drop}
use Rattle.std.specs.String.{string_bytes}
use Rattle.replica.specs.Drawing.{marks_text}
use Rattle.replica.proofs.drawing.put_marks.Given as goal

abbrev pub invariant-loop-mark : goal.invariant-loop-mark
invariant-loop-mark l = string_bytes l.text ++ marks_text l.is_first (drop l.mark-index l.marks) ≡ string_bytes l.initial.text ++ marks_text true l.marks
