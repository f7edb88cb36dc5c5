use Rattle.std.proofs.Common.{ℕ, ap, ◌∙◌, ◌++◌, ◌+◌}
use Rattle.std.specs.String.{string_bytes}
use Rattle.replica.specs.Drawing.{line_text}
use Rattle.replica.proofs.Puts.{numbered_more}
use Rattle.replica.proofs.drawing.put_lines.Goals as goal

pub loop-line-preserved : goal.loop-line-preserved
loop-line-preserved c = record {
  text = numbered_more line_text (string_bytes c.loop-line.text) (string_bytes c.put_line.new.text) _ c.args.lines.now c.loop-line.line-index c.line-item.result c.loop-line-test.true c.line-item.is
      (c.in_ok-put_line.ensures ∙ ap (λ (n : ℕ). string_bytes c.loop-line.text ++ line_text n c.line-item.result) c.loop-line.invariant.number) c.loop-line.invariant.text;
  number = ap (λ (n : ℕ). n + 1) c.loop-line.invariant.number;
}
