-- The lines so far and those of the rows that are left are all.
use Rattle.std.proofs.Common.{◌≡◌, [], drop}
use Rattle.replica.specs.ObjectLines.{is_between, lines_from}
use Rattle.replica.proofs.DrawnLaws.{Drawn}
use Rattle.replica.proofs.chart_lines.lines_of.Given as goal

abbrev pub invariant-loop-row : goal.invariant-loop-row
invariant-loop-row l = record {
  drawn : Drawn (is_between l.drawn.first l.drawn.last l.drawn.objects.only) l.row-index l.lines.items l.met (drop l.row-index l.rows) (lines_from (is_between l.drawn.first l.drawn.last l.drawn.objects.only) 0 0 [] l.rows);
  index : l.index ≡ l.row-index;
}
