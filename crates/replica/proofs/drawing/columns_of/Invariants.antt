-- The greatest thread so far, and that of the lines that are left.
use Rattle.std.proofs.Common.{◌≡◌, drop}
use Rattle.std.specs.Prelude.{max}
use Rattle.replica.specs.Drawing.{columns_of}
use Rattle.replica.proofs.drawing.columns_of.Given as goal

abbrev pub invariant-loop-line : goal.invariant-loop-line
invariant-loop-line l = max l.columns (columns_of (drop l.line-index l.lines)) ≡ columns_of l.lines
