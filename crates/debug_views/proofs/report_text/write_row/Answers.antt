use Rattle.std.proofs.Common.{ℕ, List, ◌*◌, ◌++◌, sym, ap, ◌∙◌}
use Rattle.std.specs.Prelude.{string_bytes, ◌==◌}
use Rattle.std.specs.List.{list_all}
use Rattle.debug_views.specs.Report.{shown}
use Rattle.debug_views.proofs.Rows.{no_row, one_row, same_row}
use Rattle.debug_views.proofs.report_text.write_row.Goals as goal

pub returns-then-is_zero : goal.returns-then-is_zero
returns-then-is_zero c =
    no_row c.args.memory.now c.args.row (string_bytes c.args.text.now)
    (sym (ap (list_all (λ b. b == 0)) (same_row c.args.memory.now c.args.row)) ∙ sym c.is_zero.ensures ∙ c.if-is_zero.true)

pub returns : goal.returns
returns c =
    c.in_ok-put_row.ensures
    ∙ ap (λ (bytes : List ℕ). string_bytes c.args.text.now ++ shown (c.args.row * 16) bytes) (same_row c.args.memory.now c.args.row)
    ∙ ap (λ (l : List ℕ). string_bytes c.args.text.now ++ l)
    (sym (one_row c.args.memory.now c.args.row (sym (ap (list_all (λ b. b == 0)) (same_row c.args.memory.now c.args.row)) ∙ sym c.is_zero.ensures ∙ c.if-is_zero.false)))
