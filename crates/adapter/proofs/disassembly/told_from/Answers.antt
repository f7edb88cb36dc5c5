use Rattle.std.proofs.Common.{rules, [], ◌∷◌, ◌++◌, ap, ◌∙◌}
use Rattle.adapter.proofs.Told.{told_more}
use Rattle.adapter.proofs.disassembly.told_from.Goals as goal

pub loop-index-preserved : goal.loop-index-preserved
loop-index-preserved c =
    c.in_ok-push.ensures.ok ∙ ap (λ all. all ++ c.in_ok-told.field-0 ∷ []) c.loop-index.invariant
    ∙ told_more c.args.code.now c.args.body.now c.args.place.function _ _ _ _ (search rules)
