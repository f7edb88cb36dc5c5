use Rattle.std.proofs.Common.{rules, [], ◌∷◌, ◌++◌, sym, ap, ◌∙◌, take}
use Rattle.adapter.specs.Numbered.{numbered}
use Rattle.adapter.specs.Variables.{local_item}
use Rattle.adapter.proofs.Numbers.{numbered_more}
use Rattle.adapter.proofs.variables.locals_of.Goals as goal

pub loop-number-preserved : goal.loop-number-preserved
loop-number-preserved c =
    let more = numbered_more local_item c.args.values.now c.loop-number.number _ c.loop-number-test.true (search rules) in
    c.in_ok-push.ensures.ok ∙ ap (λ items. items ++ c.in_ok-local_item.field-0 ∷ []) c.loop-number.invariant
    ∙ ap (λ item. numbered local_item 0 (take c.loop-number.number c.args.values.now) ++ item ∷ []) c.in_ok-local_item.ensures ∙ sym more
