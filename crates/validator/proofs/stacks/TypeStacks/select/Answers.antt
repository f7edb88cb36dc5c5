use Rattle.std.proofs.Common.{◌∷◌, [], ◌++◌, Some, None, true, false, take, ap, ◌∙◌, sym, refl, length}
use Rattle.wasm_types.specs.declared.value.ValType.TheVariants.{I32}
use Rattle.validator.specs.Walk.{pop_one}
use Rattle.validator.proofs.Places.{whole_none, whole_some}
use Rattle.validator.proofs.Stacking.{no_innermost, select_untested, select_without_second, select_without_first, select_of_two, select_goes}
use Rattle.validator.proofs.stacks.TypeStacks.select.Goals as goal

pub returns-in_default-clause-stops : goal.returns-in_default-clause-stops
returns-in_default-clause-stops c = λ _ f fs st. absurd (no_innermost c.args.self.now c.innermost.result f fs c.innermost.ensures c.in_default.is st)

pub returns-in_default-below_one-clause-stops : goal.returns-in_default-below_one-clause-stops
returns-in_default-below_one-clause-stops c =
    λ _ f fs st. select_untested c.args.self.now c.innermost.result c.in-Some.block false [] c.innermost.ensures c.in-Some.is
    (whole_none (pop_one c.in-Some.block.unreachable I32) c.in-Some.block.height c.args.self.now.operands.items c.as_slice-all.result.now (length c.as_slice-all.result.now) c.below_one.result c.as_slice-all.ensures.value refl c.below_one.ensures.pops c.in_default-below_one.is) refl f fs st

pub returns-in_default-next_below-clause-stops : goal.returns-in_default-next_below-clause-stops
returns-in_default-next_below-clause-stops c =
    λ _ f fs st. select_without_second c.args.self.now c.innermost.result c.in-Some.block true (take c.in-Some-below_one.under c.as_slice-all.result.now) [] None
    (c.innermost.ensures, c.in-Some.is, (whole_some (pop_one c.in-Some.block.unreachable I32) c.in-Some.block.height c.args.self.now.operands.items c.as_slice-all.result.now (take c.in-Some-below_one.under c.as_slice-all.result.now) (length c.as_slice-all.result.now) c.in-Some-below_one.under c.below_one.result c.as_slice-all.ensures.value refl c.below_one.ensures.pops c.in-Some-below_one.is (ap (take c.in-Some-below_one.under) c.as_slice-all.ensures.value)), refl) c.in_default-next_below.ensures.pops refl f fs st

pub returns-in_default-next_below-2-clause-stops : goal.returns-in_default-next_below-2-clause-stops
returns-in_default-next_below-2-clause-stops c =
    λ _ f fs st. select_without_first c.args.self.now c.innermost.result c.in-Some.block true (take c.in-Some-below_one.under c.as_slice-all.result.now) (take c.in-Some-next_below.second.left c.as_slice-all.result.now) [] (Some c.in-Some-next_below.second.operand) None c.in-Some-next_below.second.operand
    (c.innermost.ensures, c.in-Some.is, (whole_some (pop_one c.in-Some.block.unreachable I32) c.in-Some.block.height c.args.self.now.operands.items c.as_slice-all.result.now (take c.in-Some-below_one.under c.as_slice-all.result.now) (length c.as_slice-all.result.now) c.in-Some-below_one.under c.below_one.result c.as_slice-all.ensures.value refl c.below_one.ensures.pops c.in-Some-below_one.is (ap (take c.in-Some-below_one.under) c.as_slice-all.ensures.value)), refl) c.in-Some-next_below.ensures.pops refl c.in_default-next_below-2.ensures.pops refl f fs st

pub returns-in_default-common-clause-stops : goal.returns-in_default-common-clause-stops
returns-in_default-common-clause-stops c =
    λ _ f fs st. select_of_two c.args.self.now c.innermost.result c.in-Some.block true (take c.in-Some-below_one.under c.as_slice-all.result.now) (take c.in-Some-next_below.second.left c.as_slice-all.result.now) (take c.in-Some-next_below-2.first.left c.as_slice-all.result.now) (Some c.in-Some-next_below.second.operand) (Some c.in-Some-next_below-2.first.operand) c.common.result c.in-Some-next_below.second.operand c.in-Some-next_below-2.first.operand
    (c.innermost.ensures, c.in-Some.is, (whole_some (pop_one c.in-Some.block.unreachable I32) c.in-Some.block.height c.args.self.now.operands.items c.as_slice-all.result.now (take c.in-Some-below_one.under c.as_slice-all.result.now) (length c.as_slice-all.result.now) c.in-Some-below_one.under c.below_one.result c.as_slice-all.ensures.value refl c.below_one.ensures.pops c.in-Some-below_one.is (ap (take c.in-Some-below_one.under) c.as_slice-all.ensures.value)), refl) c.in-Some-next_below.ensures.pops refl c.in-Some-next_below-2.ensures.pops refl c.common.ensures c.in_default-common.is f fs st

pub returns-clause-goes : goal.returns-clause-goes
returns-clause-goes c =
    select_goes c.args.self.now c.innermost.result c.in-Some.block true (take c.in-Some-below_one.under c.as_slice-all.result.now) (take c.in-Some-next_below.second.left c.as_slice-all.result.now) (take c.in-Some-next_below-2.first.left c.as_slice-all.result.now) c.push.new.self.items (Some c.in-Some-next_below.second.operand) (Some c.in-Some-next_below-2.first.operand) c.common.result c.in-Some-next_below.second.operand c.in-Some-next_below-2.first.operand c.in-Some-common.operand
    (c.innermost.ensures, c.in-Some.is, (whole_some (pop_one c.in-Some.block.unreachable I32) c.in-Some.block.height c.args.self.now.operands.items c.as_slice-all.result.now (take c.in-Some-below_one.under c.as_slice-all.result.now) (length c.as_slice-all.result.now) c.in-Some-below_one.under c.below_one.result c.as_slice-all.ensures.value refl c.below_one.ensures.pops c.in-Some-below_one.is (ap (take c.in-Some-below_one.under) c.as_slice-all.ensures.value)), refl) c.in-Some-next_below.ensures.pops refl c.in-Some-next_below-2.ensures.pops refl c.common.ensures c.in-Some-common.is
    (c.in_ok-push.ensures.items ∙ ap (λ x. x ++ c.in-Some-common.operand ∷ []) (c.truncate.ensures.items ∙ ap (take c.in-Some-next_below-2.first.left) (sym c.as_slice-all.ensures.value)))
