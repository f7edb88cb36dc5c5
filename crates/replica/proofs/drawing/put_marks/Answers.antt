use Rattle.std.proofs.Common.{◌∙◌, ap, ◌++◌, List, ℕ, get_or, false}
use Rattle.std.specs.Prelude.{None}
use Rattle.std.specs.String.{string_bytes}
use Rattle.replica.specs.declared.versions_met.Mark.{Mark}
use Rattle.replica.specs.Drawing.{mark_text}
use Rattle.replica.proofs.Puts.{marks_more}
use Rattle.replica.proofs.drawing.put_marks.Goals as goal

-- any mark
any : Mark
any = record { object = 0; version = 0; is_write = false; is_unread = false; from = None }

pub loop-mark-preserved : goal.loop-mark-preserved
unfolding any
loop-mark-preserved c =
    let x = get_or c.args.marks.now c.loop-mark.mark-index any in
    marks_more c.loop-mark.is_first (string_bytes c.loop-mark.text) _ _ c.args.marks.now c.loop-mark.mark-index any c.loop-mark-test.true
    (c.in_ok-put_mark.ensures ∙ ap (λ (l : List ℕ). l ++ mark_text x) (c.in_ok-push_str.ensures.bytes ∙ ap (λ (l : List ℕ). string_bytes c.loop-mark.text ++ l) c.separator.ensures))
    c.loop-mark.invariant
