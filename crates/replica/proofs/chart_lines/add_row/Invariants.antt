-- The touches so far are added.
use Rattle.std.proofs.Common.{List, drop}
use Rattle.std.specs.Prelude.{map}
use Rattle.replica.specs.Touched.{touch_of}
use Rattle.replica.specs.ObjectLines.{Seen, touches_of, seen_with}
use Rattle.replica.specs.Met.{HasMet}
use Rattle.replica.proofs.DrawnLaws.{Added}
use Rattle.replica.proofs.chart_lines.add_row.Given as goal

abbrev pub invariant-loop-found : goal.invariant-loop-found
invariant-loop-found l = (seen : List Seen) → HasMet l.initial.met seen → Added l.line l.met (map (touch_of l.row.thread l.row.place) (drop l.found-index l.found-items)) (seen_with l.line (touches_of l.row) seen)
