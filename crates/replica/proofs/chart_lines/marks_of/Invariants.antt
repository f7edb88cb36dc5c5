-- The touches so far and those that are left are all.
use Rattle.std.proofs.Common.{◌≡◌, ◌++◌, List, drop}
use Rattle.std.specs.Prelude.{map}
use Rattle.replica.specs.Touched.{touch_of}
use Rattle.replica.specs.ObjectLines.{Seen, mark_of, touches_of}
use Rattle.replica.specs.Met.{HasMet}
use Rattle.replica.proofs.chart_lines.marks_of.Given as goal

abbrev pub invariant-loop-found : goal.invariant-loop-found
invariant-loop-found l = (seen : List Seen) → HasMet l.met seen → l.marks.items ++ map (mark_of seen) (map (touch_of l.row.thread l.row.place) (drop l.found-index l.found-items)) ≡ map (mark_of seen) (touches_of l.row)
