use Rattle.validator.proofs.Stacking.{no_innermost, discard_goes, discard_stops}
use Rattle.validator.proofs.stacks.TypeStacks.discard.Goals as goal

pub returns-in_default-clause-stops : goal.returns-in_default-clause-stops
returns-in_default-clause-stops c = λ _ f fs st. absurd (no_innermost c.args.self.now c.innermost.result f fs c.innermost.ensures c.in_default.is st)

pub returns-in-None-clause-stops : goal.returns-in-None-clause-stops
returns-in-None-clause-stops c = λ _ f fs st. discard_stops c.args.self.now c.innermost.result c.in-Some.block c.take_any.new.operands.items c.take_any.result c.innermost.ensures c.in-Some.is c.take_any.ensures c.in-None.is f fs st

pub returns-in-Some-take_any-clause-goes : goal.returns-in-Some-take_any-clause-goes
returns-in-Some-take_any-clause-goes c = discard_goes c.args.self.now c.innermost.result c.in-Some.block c.take_any.new.operands.items c.take_any.result _ c.innermost.ensures c.in-Some.is c.take_any.ensures c.in-Some-take_any.is
