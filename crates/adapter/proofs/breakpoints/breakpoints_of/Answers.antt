use Rattle.std.proofs.Common.{rules, [], ◌∷◌, ◌++◌, sym, ap, ◌∙◌, take}
use Rattle.adapter.specs.Breakpoints.{breakpoint_at}
use Rattle.adapter.specs.Numbered.{numbered}
use Rattle.adapter.proofs.Numbers.{numbered_more}
use Rattle.adapter.proofs.breakpoints.breakpoints_of.Goals as goal

pub loop-number-preserved : goal.loop-number-preserved
loop-number-preserved g c =
    let more = numbered_more (breakpoint_at c.args.message.now) c.args.found.now c.loop-number.number _ c.loop-number-test.true (search rules) in
    c.in_ok-push.ensures.ok ∙ ap (λ items. items ++ c.in_ok-breakpoint_at.field-0 ∷ []) c.loop-number.invariant
    ∙ ap (λ item. numbered (breakpoint_at c.args.message.now) 0 (take c.loop-number.number c.args.found.now) ++ item ∷ []) c.in_ok-breakpoint_at.ensures ∙ sym more
