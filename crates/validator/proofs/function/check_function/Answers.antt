use Rattle.std.proofs.Common.{length, sym, ◌∙◌, ap, subst, arith, ◌≡◌}
use Rattle.std.specs.Prelude.{Err}
use Rattle.validator.specs.Context.{context_of}
use Rattle.validator.specs.Faults.{IsIllTyped}
use Rattle.validator.proofs.Walking.{reached_on_slice, fault_in_slice, fault_at_end}
use Rattle.validator.proofs.function.check_function.Goals as goal

pub returns-in-Err-IllTyped-clause-fault : goal.returns-in-Err-IllTyped-clause-fault
returns-in-Err-IllTyped-clause-fault c =
    fault_in_slice (context_of c.args.module.now c.args.kind.now c.args.body.now) c.args.body.now.code c.as_slice-code.result.now c.loop-at.at _ c.loop-at.stacks c.is_closed.result c.as_slice-code.ensures c.loop-at-test.true
    c.loop-at.invariant c.is_closed.ensures c.if-is_closed.false (c.in-Err-IllTyped.ensures.stops (subst (λ x. IsIllTyped {X = Unit {0}} (Err x)) (sym c.in-Err-IllTyped.field-0-is) tt))

pub loop-at-preserved : goal.loop-at-preserved
loop-at-preserved c =
    reached_on_slice (context_of c.args.module.now c.args.kind.now c.args.body.now) c.args.body.now.code c.as_slice-code.result.now c.loop-at.at _ c.loop-at.stacks c.step.new.stacks c.is_closed.result c.as_slice-code.ensures c.loop-at-test.true
    c.loop-at.invariant c.is_closed.ensures c.if-is_closed.false c.in-Ok.ensures.goes

pub returns-then-not-is_closed-clause-fault : goal.returns-then-not-is_closed-clause-fault
returns-then-not-is_closed-clause-fault c =
    let n : length c.as_slice-code.result.now ≡ length c.args.body.now.code = ap length c.as_slice-code.ensures in
    fault_at_end (context_of c.args.module.now c.args.kind.now c.args.body.now) c.args.body.now.code c.loop-at.at (length c.as_slice-code.result.now) c.loop-at.stacks (omega arith) (omega (arith, c.loop-at.auto.at-end)) n
    c.loop-at.invariant (λ fs st. sym c.if-not-is_closed.true ∙ c.is_closed-2.ensures fs st)
