use Rattle.std.proofs.Common.{◌∷◌, Some, refl}
use Rattle.validator.specs.Walk.{made_unreachable}
use Rattle.validator.proofs.Stacking.{no_innermost, takes_stop, leave_goes}
use Rattle.validator.proofs.stacks.TypeStacks.leave.Goals as goal

pub returns-in_default-clause-stops : goal.returns-in_default-clause-stops
returns-in_default-clause-stops c = λ _ f fs st. absurd (no_innermost c.args.self.now c.innermost.result f fs c.innermost.ensures c.in_default.is st)

pub returns-then-not-take_all-clause-stops : goal.returns-then-not-take_all-clause-stops
returns-then-not-take_all-clause-stops c =
    λ _ f fs st. takes_stop c.args.takes.now (λ f fs os. Some (made_unreachable f ∷ fs)) c.args.self.now c.innermost.result c.in-Some.block c.take_all.new.operands.items c.take_all.result
    c.innermost.ensures c.in-Some.is c.take_all.ensures c.if-not-take_all.true f fs st

pub returns-clause-goes : goal.returns-clause-goes
returns-clause-goes c =
    leave_goes c.args.takes.now c.args.self.now c.innermost.result c.in-Some.block _ c.take_all.new.operands.items c.truncate.new.self.items c.set_last.new.blocks.items c.take_all.result
    c.innermost.ensures c.in-Some.is c.take_all.ensures c.if-not-take_all.false c.truncate.ensures.items c.set_last.ensures refl
