use Rattle.std.proofs.Common.{◌∙◌, ap, ◌++◌, List, ℕ}
use Rattle.std.specs.String.{string_bytes}
use Rattle.replica.specs.Drawing.{thread_line, thread_head, column_text}
use Rattle.replica.proofs.Puts.{two, range_more}
use Rattle.replica.proofs.drawing.put_columns.Goals as goal

pub loop-thread-preserved : goal.loop-thread-preserved
loop-thread-preserved c =
    let height = c.args.height in
    let thread = c.loop-thread.thread in
    range_more (column_text height) (string_bytes c.loop-thread.text) _ _ c.args.columns thread c.loop-thread-test.true
    (c.in_ok-put_thread_head.ensures ∙ ap (λ (l : List ℕ). l ++ thread_head thread) c.in_ok-put_thread_line.ensures ∙ two (string_bytes c.loop-thread.text) (thread_line height thread) (thread_head thread))
    c.loop-thread.invariant
