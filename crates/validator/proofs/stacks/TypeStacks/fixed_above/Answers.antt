use Rattle.std.proofs.Common.{[], ◌++◌, ◌∷◌, Some, reverse}
use Rattle.validator.specs.Walk.{known, with_stack}
use Rattle.validator.proofs.Stacking.{no_innermost, takes_stop, fixed_goes}
use Rattle.validator.proofs.stacks.TypeStacks.fixed_above.Goals as goal

pub returns-in_default-clause-stops : goal.returns-in_default-clause-stops
returns-in_default-clause-stops c = λ _ f fs st. absurd (no_innermost c.args.self.now c.innermost.result f fs c.innermost.ensures c.in_default.is st)

pub returns-then-not-take_above-clause-stops : goal.returns-then-not-take_above-clause-stops
returns-then-not-take_above-clause-stops c =
    λ _ f fs st. takes_stop (c.args.takes.now ++ c.args.above ∷ []) (λ f fs os. Some (with_stack (known (reverse c.args.gives.now) ++ os) f ∷ fs)) c.args.self.now c.innermost.result c.in-Some.block c.take_above.new.operands.items c.take_above.result
    c.innermost.ensures c.in-Some.is c.take_above.ensures c.if-not-take_above.true f fs st

pub returns-clause-goes : goal.returns-clause-goes
returns-clause-goes c =
    fixed_goes (c.args.takes.now ++ c.args.above ∷ []) c.args.gives.now c.args.self.now c.innermost.result c.in-Some.block c.take_above.new.operands.items c.put_all.new.operands.items c.take_above.result
    c.innermost.ensures c.in-Some.is c.take_above.ensures c.if-not-take_above.false c.in_ok-put_all.ensures
