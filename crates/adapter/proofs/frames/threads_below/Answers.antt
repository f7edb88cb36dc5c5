use Rattle.std.proofs.Common.{◌≡◌, ◌+◌, [], ◌∷◌, ◌++◌, arith, sym, ap, ◌∙◌}
use Rattle.std.proofs.lemmas.List.FromFn.{map-range_with_len_more}
use Rattle.adapter.specs.Frames.{thread_item, threads_below}
use Rattle.adapter.proofs.frames.threads_below.Goals as goal

pub loop-thread-preserved : goal.loop-thread-preserved
loop-thread-preserved c =
    let same : 0 + c.loop-thread.thread ≡ c.loop-thread.thread = omega arith in
    c.in_ok-push.ensures.ok ∙ ap (λ items. items ++ c.in_ok-thread_item.field-0 ∷ []) c.loop-thread.invariant
    ∙ ap (λ item. threads_below c.loop-thread.thread ++ item ∷ []) c.in_ok-thread_item.ensures
    ∙ sym (map-range_with_len_more thread_item 0 c.loop-thread.thread c.loop-thread.thread same)
