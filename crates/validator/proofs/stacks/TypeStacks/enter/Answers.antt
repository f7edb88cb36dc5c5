use Rattle.std.proofs.Common.{◌≡◌, ◌∷◌, Some, ap, arith, length, false}
use Rattle.validator.specs.Walk.{opened, with_stack}
use Rattle.validator.specs.Table.{seq}
use Rattle.std.proofs.Common.{length, arith}
use Rattle.validator.proofs.Stacking.{no_innermost, takes_stop, enter_goes}
use Rattle.validator.proofs.stacks.TypeStacks.enter.Goals as goal

pub returns-in_default-clause-stops : goal.returns-in_default-clause-stops
returns-in_default-clause-stops c = λ _ f fs st. absurd (no_innermost c.args.self.now c.innermost.result f fs c.innermost.ensures c.in_default.is st)

pub returns-then-not-take_all-clause-stops : goal.returns-then-not-take_all-clause-stops
returns-then-not-take_all-clause-stops c =
    λ _ f fs st. takes_stop c.args.takes.now (λ f fs os. Some (opened c.args.enclosing (seq c.args.label) (seq c.args.leaves) ∷ with_stack os f ∷ fs)) c.args.self.now c.innermost.result c.in-Some.block c.take_all.new.operands.items c.take_all.result
    c.innermost.ensures c.in-Some.is c.take_all.ensures c.if-not-take_all.true f fs st

pub returns-clause-goes : goal.returns-clause-goes
returns-clause-goes c =
    enter_goes c.args.takes.now c.args.enclosing c.args.label c.args.leaves c.args.self.now c.innermost.result c.in-Some.block _ c.take_all.new.operands.items c.push.new.self.items c.take_all.result
    c.innermost.ensures c.in-Some.is c.take_all.ensures c.if-not-take_all.false c.in_ok-push.ensures.items
    (ap (λ n. record { enclosing = c.args.enclosing; label = c.args.label; result = c.args.leaves; height = n; unreachable = false })
    (let n : c.len-height.result ≡ length c.take_all.new.operands.items = omega arith in n))
