use Rattle.std.proofs.Common.{ℕ, ◌+◌, ap, sym, ◌∙◌}
use Rattle.replica.specs.ObjectLines.{is_between}
use Rattle.replica.proofs.DrawnLaws.{row_more}
use Rattle.replica.proofs.chart_lines.lines_of.Goals as goal

pub loop-row-preserved : goal.loop-row-preserved
loop-row-preserved c =
    let drawn = is_between c.in_ok-drawn.drawn.first c.in_ok-drawn.drawn.last c.in_ok-drawn.drawn.objects.only in
    record {
      drawn = row_more drawn _ c.args.rows.now c.loop-row.row-index c.row-item.result c.loop-row-test.true c.row-item.is c.loop-row.lines.items c.add_if_drawn.new.lines.items c.loop-row.met c.add_if_drawn.new.met c.loop-row.invariant.drawn
          c.is_drawn-is_drawn.result (sym (c.is_drawn-is_drawn.ensures ∙ ap (λ (n : ℕ). drawn n c.row-item.result) c.loop-row.invariant.index)) c.in_ok-add_if_drawn.ensures.lines c.in_ok-add_if_drawn.ensures.met;
      index = ap (λ (n : ℕ). n + 1) c.loop-row.invariant.index;
    }
