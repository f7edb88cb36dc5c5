use Rattle.std.proofs.Common.{◌∷◌, refl}
use Rattle.validator.specs.Walk.{opened, may_turn}
use Rattle.wasm_types.specs.declared.nesting.Enclosing.TheVariants.{Whole}
use Rattle.validator.proofs.Stacking.{no_innermost, not_closed, turn_goes, turn_in_whole}
use Rattle.validator.proofs.stacks.TypeStacks.turn.Goals as goal

pub returns-in_default-clause-stops : goal.returns-in_default-clause-stops
returns-in_default-clause-stops c = λ _ f fs st. absurd (no_innermost c.args.self.now c.innermost.result f fs c.innermost.ensures c.in_default.is st)

pub returns-in-Whole-clause-stops : goal.returns-in-Whole-clause-stops
returns-in-Whole-clause-stops c = λ _ f fs st. turn_in_whole c.args.self.now c.innermost.result c.in-Some.block c.innermost.ensures c.in-Some.is c.in-Whole.is f fs st

pub returns-then-not-take_result-clause-stops : goal.returns-then-not-take_result-clause-stops
returns-then-not-take_result-clause-stops c =
    λ _ f fs st. not_closed (λ f. may_turn f.enclosing) (λ f fs. opened Whole f.label f.result ∷ fs) c.args.self.now c.innermost.result c.in-Some.block c.take_result.new.operands.items c.take_result.result
    c.innermost.ensures c.in-Some.is c.take_result.ensures c.if-not-take_result.true f fs st

pub returns-else-not-take_result-clause-goes : goal.returns-else-not-take_result-clause-goes
returns-else-not-take_result-clause-goes c =
    turn_goes c.args.self.now c.innermost.result c.in-Some.block _ c.take_result.new.operands.items c.set_last.new.blocks.items c.take_result.result
    c.innermost.ensures c.in-Some.is c.in-FirstArm.is c.take_result.ensures c.if-not-take_result.false c.set_last.ensures refl
