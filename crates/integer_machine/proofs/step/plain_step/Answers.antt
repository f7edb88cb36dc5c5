use Rattle.std.proofs.Common.{sym, ap, subst}
use Rattle.wasm_types.specs.declared.instruction.Instr.TheVariants.{Plain}
use Rattle.wasm_types.specs.declared.instruction.Plain.TheVariants.{Unreachable, Nop, Discard, Select}
use Rattle.thread_words.specs.Moves.{CanStepIn, StepsIn}
use Rattle.integer_machine.proofs.Choosing.{somewhere, anywhere}
use Rattle.integer_machine.proofs.step.plain_step.Goals as goal

pub unreachable-requires : goal.unreachable-requires
unreachable-requires c = somewhere c.args.valid.now (Plain c.args.op) (Plain Unreachable) c.args.m.now (ap (λ o. Plain o) c.in-Unreachable.is) c.requires

pub returns-in-Unreachable-clause-steps : goal.returns-in-Unreachable-clause-steps
returns-in-Unreachable-clause-steps c = anywhere c.args.valid.now (Plain c.args.op) (Plain Unreachable) c.args.m.now c.unreachable.new.m (ap (λ o. Plain o) c.in-Unreachable.is) c.unreachable.ensures

pub nop-requires : goal.nop-requires
nop-requires c = somewhere c.args.valid.now (Plain c.args.op) (Plain Nop) c.args.m.now (ap (λ o. Plain o) c.in-Nop.is) c.requires

pub returns-in-Nop-clause-steps : goal.returns-in-Nop-clause-steps
returns-in-Nop-clause-steps c = anywhere c.args.valid.now (Plain c.args.op) (Plain Nop) c.args.m.now c.nop.new.m (ap (λ o. Plain o) c.in-Nop.is) c.nop.ensures.steps

pub end_first_arm-requires : goal.end_first_arm-requires
end_first_arm-requires c = subst (λ o. CanStepIn c.args.valid.now (Plain o) c.args.m.now) c.in-Else.is c.requires

pub returns-in-Else-clause-steps : goal.returns-in-Else-clause-steps
returns-in-Else-clause-steps c = subst (λ o. StepsIn c.args.valid.now (Plain o) c.args.m.now c.end_first_arm.new.m) (sym c.in-Else.is) c.end_first_arm.ensures.steps

pub end-requires : goal.end-requires
end-requires c = subst (λ o. CanStepIn c.args.valid.now (Plain o) c.args.m.now) c.in-End.is c.requires

pub returns-in-End-clause-steps : goal.returns-in-End-clause-steps
returns-in-End-clause-steps c = subst (λ o. StepsIn c.args.valid.now (Plain o) c.args.m.now c.end.new.m) (sym c.in-End.is) c.end.ensures.steps

pub return_now-requires : goal.return_now-requires
return_now-requires c = subst (λ o. CanStepIn c.args.valid.now (Plain o) c.args.m.now) c.in-Return.is c.requires

pub returns-in-Return-clause-steps : goal.returns-in-Return-clause-steps
returns-in-Return-clause-steps c = subst (λ o. StepsIn c.args.valid.now (Plain o) c.args.m.now c.return_now.new.m) (sym c.in-Return.is) c.return_now.ensures

pub discard-requires : goal.discard-requires
discard-requires c = somewhere c.args.valid.now (Plain c.args.op) (Plain Discard) c.args.m.now (ap (λ o. Plain o) c.in-Discard.is) c.requires

pub returns-in-Discard-clause-steps : goal.returns-in-Discard-clause-steps
returns-in-Discard-clause-steps c = anywhere c.args.valid.now (Plain c.args.op) (Plain Discard) c.args.m.now c.discard.new.m (ap (λ o. Plain o) c.in-Discard.is) c.discard.ensures.steps

pub select-requires : goal.select-requires
select-requires c = somewhere c.args.valid.now (Plain c.args.op) (Plain Select) c.args.m.now (ap (λ o. Plain o) c.in-Select.is) c.requires

pub returns-in-Select-clause-steps : goal.returns-in-Select-clause-steps
returns-in-Select-clause-steps c = anywhere c.args.valid.now (Plain c.args.op) (Plain Select) c.args.m.now c.select.new.m (ap (λ o. Plain o) c.in-Select.is) c.select.ensures.steps
