use Rattle.std.proofs.Common.{◌-◌, arith, subst}
use Rattle.recorder.proofs.survey.survey_part.Goals as goal

pub returns-then-is_over : goal.returns-then-is_over
returns-then-is_over g c =
    let few = c.loop-done.invariant.1 in
    let left = c.args.count - c.loop-done.done in
    subst (λ n. g.V.Survey.finds c.args.survey.now c.args.from n c.loop-done.found) (omega (arith, few)) (c.is_over.ensures c.if-is_over.true c.args.from c.loop-done.done left c.loop-done.invariant.0)
