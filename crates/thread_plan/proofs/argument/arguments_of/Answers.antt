use Rattle.std.proofs.Common.{◌<◌, drop, length, arith, sym, ap, ◌∙◌, length-drop}
use Rattle.std.specs.Cmp.{second_so}
use Rattle.std.specs.List.{list_all}
use Rattle.text_lines.specs.Integers.{is_decimal}
use Rattle.thread_plan.proofs.ArgumentLemmas.{too_few, next_value}
use Rattle.thread_plan.proofs.argument.arguments_of.Goals as goal

pub returns-in_default : goal.returns-in_default
returns-in_default c =
    let some : 0 < length (drop c.loop-param.param-index c.args.params.now) = simp length-drop (omega arith) in
    sym (c.loop-param.invariant.same ∙ too_few _ _ _ some c.in_default.ensures.0)

pub loop-param-preserved : goal.loop-param-preserved
loop-param-preserved c = record {
  decimal = second_so _ _ (sym (ap (list_all is_decimal) c.in-Some.ensures) ∙ c.loop-param.invariant.decimal);
  same = c.loop-param.invariant.same ∙ rw c.in_ok-push.ensures.items (next_value _ _ _ _ _ _ _ c.loop-param-test.true c.in-Some.ensures (sym c.argument.ensures ∙ c.in-Some-argument.is));
}
