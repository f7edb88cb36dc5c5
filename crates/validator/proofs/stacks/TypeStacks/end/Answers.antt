use Rattle.std.proofs.Common.{◌≡◌, ◌++◌, reverse, ap, sym, ◌∙◌, arith, length}
use Rattle.validator.specs.Walk.{give, may_end}
use Rattle.validator.proofs.Stacking.{no_innermost, not_closed, may_not_end, end_of_all, end_of_one, is_zero, is_not_zero, put_result}
use Rattle.validator.specs.Walk.{known}
use Rattle.validator.specs.Table.{seq}
use Rattle.std.specs.Prelude.{vec_len, take, ◌-◌, length}
use Rattle.std.proofs.Common.{arith}
use Rattle.validator.proofs.stacks.TypeStacks.end.Goals as goal

pub returns-in_default-clause-stops : goal.returns-in_default-clause-stops
returns-in_default-clause-stops c = λ _ f fs st. absurd (no_innermost c.args.self.now c.innermost.result f fs c.innermost.ensures c.in_default.is st)

pub returns-then-not-may_close-clause-stops : goal.returns-then-not-may_close-clause-stops
returns-then-not-may_close-clause-stops c = λ _ f fs st. may_not_end c.args.self.now c.innermost.result c.in-Some.block c.may_close.result c.innermost.ensures c.in-Some.is c.may_close.ensures c.if-not-may_close.true f fs st

pub returns-then-not-take_result-clause-stops : goal.returns-then-not-take_result-clause-stops
returns-then-not-take_result-clause-stops c =
    λ _ f fs st. not_closed (λ f. may_end f.enclosing f.result) (λ f fs. give f.result fs) c.args.self.now c.innermost.result c.in-Some.block c.take_result.new.operands.items c.take_result.result
    c.innermost.ensures c.in-Some.is c.take_result.ensures c.if-not-take_result.true f fs st

pub returns-then-is_empty-clause-goes : goal.returns-then-is_empty-clause-goes
returns-then-is_empty-clause-goes c =
    end_of_all c.args.self.now c.innermost.result c.in-Some.block c.may_close.result c.take_result.result c.take_result.new.operands.items c.pop.new.self.items
    (c.innermost.ensures, c.in-Some.is, c.may_close.ensures, c.if-not-may_close.false, c.take_result.ensures, c.if-not-take_result.false, c.pop.ensures.rest ∙ ap (λ n. take (n - 1) c.args.self.now.blocks.items) (let n : vec_len c.args.self.now.blocks ≡ length c.args.self.now.blocks.items = omega arith in n))
    (let z = is_zero (vec_len c.pop.new.self) c.is_empty.result c.is_empty.ensures c.if-is_empty.true in omega arith)

pub returns-in_ok-push-clause-goes : goal.returns-in_ok-push-clause-goes
returns-in_ok-push-clause-goes c =
    end_of_one c.args.self.now c.innermost.result c.in-Some.block c.may_close.result c.take_result.result c.take_result.new.operands.items c.push.new.self.items c.pop.new.self.items
    (c.innermost.ensures, c.in-Some.is, c.may_close.ensures, c.if-not-may_close.false, c.take_result.ensures, c.if-not-take_result.false, c.pop.ensures.rest ∙ ap (λ n. take (n - 1) c.args.self.now.blocks.items) (let n : vec_len c.args.self.now.blocks ≡ length c.args.self.now.blocks.items = omega arith in n))
    (λ z. is_not_zero (vec_len c.pop.new.self) c.is_empty.result c.is_empty.ensures c.if-is_empty.false (omega arith))
    (put_result c.in-Some.block.result c.in-Some-result.found _ _ c.in-Some-result.is c.in_ok-push.ensures.items)

pub returns-in_default-result-clause-goes : goal.returns-in_default-result-clause-goes
returns-in_default-result-clause-goes c =
    end_of_one c.args.self.now c.innermost.result c.in-Some.block c.may_close.result c.take_result.result c.take_result.new.operands.items c.take_result.new.operands.items c.pop.new.self.items
    (c.innermost.ensures, c.in-Some.is, c.may_close.ensures, c.if-not-may_close.false, c.take_result.ensures, c.if-not-take_result.false, c.pop.ensures.rest ∙ ap (λ n. take (n - 1) c.args.self.now.blocks.items) (let n : vec_len c.args.self.now.blocks ≡ length c.args.self.now.blocks.items = omega arith in n))
    (λ z. is_not_zero (vec_len c.pop.new.self) c.is_empty.result c.is_empty.ensures c.if-is_empty.false (omega arith))
    (sym (ap (λ r. known (seq r) ++ reverse c.take_result.new.operands.items) c.in_default-result.is))
