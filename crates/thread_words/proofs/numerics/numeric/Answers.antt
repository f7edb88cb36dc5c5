use Rattle.std.proofs.Common.{sym, subst}
use Rattle.wasm_types.specs.declared.instruction.Instr.TheVariants.{Numeric as NumericInstr}
use Rattle.thread_words.specs.Moves.{StepsAnywhere}
use Rattle.thread_words.proofs.numerics.numeric.Goals as goal

pub returns-in-IsZero-clause-steps : goal.returns-in-IsZero-clause-steps
returns-in-IsZero-clause-steps c = subst (λ o. StepsAnywhere (NumericInstr o) c.args.m.now c.numeric_of_one.new.m) (sym c.in-IsZero.is) c.numeric_of_one.ensures.steps

pub returns-in-Unary-clause-steps : goal.returns-in-Unary-clause-steps
returns-in-Unary-clause-steps c = subst (λ o. StepsAnywhere (NumericInstr o) c.args.m.now c.numeric_of_one-in-Unary.new.m) (sym c.in-Unary.is) c.numeric_of_one-in-Unary.ensures.steps

pub returns-in-ExtendLow-clause-steps : goal.returns-in-ExtendLow-clause-steps
returns-in-ExtendLow-clause-steps c = subst (λ o. StepsAnywhere (NumericInstr o) c.args.m.now c.numeric_of_one-in-ExtendLow.new.m) (sym c.in-ExtendLow.is) c.numeric_of_one-in-ExtendLow.ensures.steps
