use Rattle.std.proofs.Common.{sym, ap, subst}
use Rattle.wasm_types.specs.declared.instruction.Instr.TheVariants.{Index}
use Rattle.wasm_types.specs.declared.instruction.IndexOp.TheVariants.{LocalGet, LocalSet, LocalTee, GlobalGet, GlobalSet}
use Rattle.thread_words.specs.Moves.{CanStepIn, StepsIn}
use Rattle.integer_machine.proofs.Choosing.{somewhere, anywhere}
use Rattle.integer_machine.proofs.step.index_step.Goals as goal

pub branch-m-requires : goal.branch-m-requires
branch-m-requires c = subst (λ o. CanStepIn c.args.valid.now (Index o c.args.index) c.args.m.now) c.in-Branch.is c.requires

pub returns-in-Branch-clause-ok : goal.returns-in-Branch-clause-ok
returns-in-Branch-clause-ok c = subst (λ o. StepsIn c.args.valid.now (Index o c.args.index) c.args.m.now c.branch-m.new.m) (sym c.in-Branch.is) c.branch-m.ensures.steps

pub branch_if-requires : goal.branch_if-requires
branch_if-requires c = subst (λ o. CanStepIn c.args.valid.now (Index o c.args.index) c.args.m.now) c.in-BranchIf.is c.requires

pub returns-in-BranchIf-clause-ok : goal.returns-in-BranchIf-clause-ok
returns-in-BranchIf-clause-ok c = subst (λ o. StepsIn c.args.valid.now (Index o c.args.index) c.args.m.now c.branch_if.new.m) (sym c.in-BranchIf.is) c.branch_if.ensures.steps

pub call-requires : goal.call-requires
call-requires c = subst (λ o. CanStepIn c.args.valid.now (Index o c.args.index) c.args.m.now) c.in-Call.is c.requires

pub returns-in-Call-clause-ok : goal.returns-in-Call-clause-ok
returns-in-Call-clause-ok c = ((subst (λ o. StepsIn c.args.valid.now (Index o c.args.index) c.args.m.now c.call.new.m) (sym c.in-Call.is))) c.in_ok-call-in-Call.ensures.ok

pub local_get-requires : goal.local_get-requires
local_get-requires c = somewhere c.args.valid.now (Index c.args.op c.args.index) (Index LocalGet c.args.index) c.args.m.now (ap (λ o. Index o c.args.index) c.in-LocalGet.is) c.requires

pub returns-in_ok-local_get-in-LocalGet-clause-ok : goal.returns-in_ok-local_get-in-LocalGet-clause-ok
returns-in_ok-local_get-in-LocalGet-clause-ok c = ((anywhere c.args.valid.now (Index c.args.op c.args.index) (Index LocalGet c.args.index) c.args.m.now c.local_get.new.m (ap (λ o. Index o c.args.index) c.in-LocalGet.is))) c.in_ok-local_get-in-LocalGet.ensures.ok

pub local_set-requires : goal.local_set-requires
local_set-requires c = somewhere c.args.valid.now (Index c.args.op c.args.index) (Index LocalSet c.args.index) c.args.m.now (ap (λ o. Index o c.args.index) c.in-LocalSet.is) c.requires

pub returns-in-LocalSet-clause-ok : goal.returns-in-LocalSet-clause-ok
returns-in-LocalSet-clause-ok c = anywhere c.args.valid.now (Index c.args.op c.args.index) (Index LocalSet c.args.index) c.args.m.now c.local_set.new.m (ap (λ o. Index o c.args.index) c.in-LocalSet.is) c.local_set.ensures.steps

pub local_tee-requires : goal.local_tee-requires
local_tee-requires c = somewhere c.args.valid.now (Index c.args.op c.args.index) (Index LocalTee c.args.index) c.args.m.now (ap (λ o. Index o c.args.index) c.in-LocalTee.is) c.requires

pub returns-in-LocalTee-clause-ok : goal.returns-in-LocalTee-clause-ok
returns-in-LocalTee-clause-ok c = anywhere c.args.valid.now (Index c.args.op c.args.index) (Index LocalTee c.args.index) c.args.m.now c.local_tee.new.m (ap (λ o. Index o c.args.index) c.in-LocalTee.is) c.local_tee.ensures.steps

pub global_get-requires : goal.global_get-requires
global_get-requires c = somewhere c.args.valid.now (Index c.args.op c.args.index) (Index GlobalGet c.args.index) c.args.m.now (ap (λ o. Index o c.args.index) c.in-GlobalGet.is) c.requires

pub returns-in_ok-global_get-in-GlobalGet-clause-ok : goal.returns-in_ok-global_get-in-GlobalGet-clause-ok
returns-in_ok-global_get-in-GlobalGet-clause-ok c = ((anywhere c.args.valid.now (Index c.args.op c.args.index) (Index GlobalGet c.args.index) c.args.m.now c.global_get.new.m (ap (λ o. Index o c.args.index) c.in-GlobalGet.is))) c.in_ok-global_get-in-GlobalGet.ensures.ok

pub global_set-requires : goal.global_set-requires
global_set-requires c = somewhere c.args.valid.now (Index c.args.op c.args.index) (Index GlobalSet c.args.index) c.args.m.now (ap (λ o. Index o c.args.index) c.in-GlobalSet.is) c.requires

pub returns-in-GlobalSet-clause-ok : goal.returns-in-GlobalSet-clause-ok
returns-in-GlobalSet-clause-ok c = anywhere c.args.valid.now (Index c.args.op c.args.index) (Index GlobalSet c.args.index) c.args.m.now c.global_set.new.m (ap (λ o. Index o c.args.index) c.in-GlobalSet.is) c.global_set.ensures.steps
