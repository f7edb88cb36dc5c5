use Rattle.std.proofs.Common.{◌≡◌}
use Rattle.std.specs.Prelude.{slice_get}
use Rattle.text_lines.specs.Parts.{parts_left}
use Rattle.text_lines.proofs.parts.Parts.part_at.Given as goal

-- the part stands so many parts ahead
abbrev pub invariant-parts : goal.invariant-parts
invariant-parts l = slice_get (parts_left l.fn.self) l.number ≡ slice_get (parts_left l.self) l.left

abbrev pub decreases-parts : goal.decreases-parts
decreases-parts l = l.left
