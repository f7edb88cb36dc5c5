use Rattle.std.proofs.Common.{◌≡◌, drop, true}
use Rattle.std.specs.List.{list_all}
use Rattle.text_lines.specs.Parts.{parts_left}
use Rattle.text_lines.specs.Integers.{is_decimal}
use Rattle.thread_plan.specs.Arguments.{values_of}
use Rattle.thread_plan.proofs.ArgumentLemmas.{behind}
use Rattle.thread_plan.proofs.argument.arguments_of.Given as goal

-- the values so far, and those of the texts that are left
abbrev pub invariant-loop-param : goal.invariant-loop-param
invariant-loop-param l = record {
  decimal : list_all is_decimal (parts_left l.texts) ≡ true;
  same : values_of l.params (parts_left l.fn.texts) ≡ behind l.values.items (values_of (drop l.param-index l.params) (parts_left l.texts));
}
