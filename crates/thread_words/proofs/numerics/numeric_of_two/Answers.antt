use Rattle.std.proofs.Common.{[], ◌∷◌, sym, subst}
use Rattle.wasm_types.specs.declared.instruction.Instr.TheVariants.{Numeric as NumericInstr}
use Rattle.thread_words.specs.Thread.{Local}
use Rattle.wasm_types.specs.Values.{bits_of}
use Rattle.integer_ops.specs.Numeric.{computed, operand_types, Takes}
use Rattle.thread_words.specs.Fields.{Finishes}
use Rattle.thread_words.proofs.Here.{next_fits, acts_here}
use Rattle.thread_words.proofs.Straight.{takes_two, finishes}
use Rattle.thread_words.proofs.numerics.numeric_of_two.Goals as goal

pub typed_operand-b-requires : goal.typed_operand-b-requires
typed_operand-b-requires c = let k = c.requires.can in let p = takes_two k.0 k.1 c.args.op c.args.t k.2.0 (Local k.2.1) c.args.m.now k.2.2 c.requires.types in (k.2.0, p.second, p.second_there)

pub typed_operand-a-requires : goal.typed_operand-a-requires
typed_operand-a-requires c = let k = c.requires.can in let p = takes_two k.0 k.1 c.args.op c.args.t k.2.0 (Local k.2.1) c.args.m.now k.2.2 c.requires.types in (k.2.0, p.first, p.first_there)

pub compute-requires : goal.compute-requires
compute-requires c = let k = c.requires.can in let p = takes_two k.0 k.1 c.args.op c.args.t k.2.0 (Local k.2.1) c.args.m.now k.2.2 c.requires.types in
    subst (λ y. Takes (operand_types c.args.op) c.typed_operand-a.result y) (sym (c.typed_operand-b.ensures k.2.0 p.second p.second_there))
    (subst (λ y. Takes (operand_types c.args.op) y p.second) (sym (c.typed_operand-a.ensures k.2.0 p.first p.first_there)) p.takes)

pub finish-requires-clause-place : goal.finish-requires-clause-place
finish-requires-clause-place c = let k = c.requires.can in next_fits k.0 k.1 (NumericInstr c.args.op) k.2.0 (Local k.2.1) c.args.m.now k.2.2

pub finish-requires-clause-enough : goal.finish-requires-clause-enough
finish-requires-clause-enough c = let k = c.requires.can in (takes_two k.0 k.1 c.args.op c.args.t k.2.0 (Local k.2.1) c.args.m.now k.2.2 c.requires.types).enough

pub returns-clause-steps : goal.returns-clause-steps
returns-clause-steps c = λ m instance s after k.
    let p = takes_two m instance c.args.op c.args.t s (Local after) c.args.m.now k c.requires.types in
    let a = acts_here m instance (NumericInstr c.args.op) s (Local after) c.args.m.now k in
    finishes m instance (NumericInstr c.args.op) s after c.args.m.now c.finish.new.m a.next (p.second ∷ p.first ∷ []) p.rest (computed c.args.op (bits_of p.first) (bits_of p.second)) k p.gives a.moves p.stack
    (subst (λ y. Finishes 2 (computed c.args.op (bits_of y) (bits_of p.second)) c.args.m.now c.finish.new.m) (c.typed_operand-a.ensures s p.first p.first_there)
    (subst (λ y. Finishes 2 (computed c.args.op (bits_of c.typed_operand-a.result) (bits_of y)) c.args.m.now c.finish.new.m) (c.typed_operand-b.ensures s p.second p.second_there)
    (subst (λ y. Finishes 2 y c.args.m.now c.finish.new.m) c.compute.ensures c.finish.ensures.finishes)))
