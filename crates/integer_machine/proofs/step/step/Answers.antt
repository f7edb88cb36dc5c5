use Rattle.std.proofs.Common.{sym, subst, inl, inr}
use Rattle.std.proofs.lemmas.Result.{on_ok_weaker}
use Rattle.thread_words.specs.Words.{instance_at}
use Rattle.thread_words.specs.Moves.{CanStep, Steps}
use Rattle.integer_machine.specs.Rooms.{IsNoAccess, HasRoomFor}
use Rattle.integer_machine.proofs.step.step.Goals as goal

pub plain_step-requires : goal.plain_step-requires
plain_step-requires c = (instance_at c.args.instance.now, subst (λ i. CanStep c.args.valid.now (instance_at c.args.instance.now) i c.args.m.now) c.in-Plain.is c.requires.can)

pub returns-in-Plain-clause-ok : goal.returns-in-Plain-clause-ok
returns-in-Plain-clause-ok c = subst (λ i. Steps c.args.valid.now (instance_at c.args.instance.now) i c.args.m.now c.plain_step.new.m) (sym c.in-Plain.is) (c.plain_step.ensures.steps (instance_at c.args.instance.now))

pub numeric-requires : goal.numeric-requires
numeric-requires c = (c.args.valid.now, instance_at c.args.instance.now, subst (λ i. CanStep c.args.valid.now (instance_at c.args.instance.now) i c.args.m.now) c.in-Numeric.is c.requires.can)

pub returns-in-Numeric-clause-ok : goal.returns-in-Numeric-clause-ok
returns-in-Numeric-clause-ok c = subst (λ i. Steps c.args.valid.now (instance_at c.args.instance.now) i c.args.m.now c.numeric.new.m) (sym c.in-Numeric.is) (c.numeric.ensures.steps c.args.valid.now (instance_at c.args.instance.now))

pub block-requires : goal.block-requires
block-requires c = (c.in-Block.field-1, (instance_at c.args.instance.now, subst (λ i. CanStep c.args.valid.now (instance_at c.args.instance.now) i c.args.m.now) c.in-Block.is c.requires.can))

pub returns-in_ok-block-in-Block-clause-ok : goal.returns-in_ok-block-in-Block-clause-ok
returns-in_ok-block-in-Block-clause-ok c = subst (λ i. Steps c.args.valid.now (instance_at c.args.instance.now) i c.args.m.now c.block.new.m) (sym c.in-Block.is) (c.in_ok-block-in-Block.ensures.ok c.in-Block.field-1 (instance_at c.args.instance.now))

pub index_step-requires : goal.index_step-requires
index_step-requires c = (instance_at c.args.instance.now, subst (λ i. CanStep c.args.valid.now (instance_at c.args.instance.now) i c.args.m.now) c.in-Index.is c.requires.can)

pub returns-in-Index-clause-ok : goal.returns-in-Index-clause-ok
returns-in-Index-clause-ok c =
    on_ok_weaker c.index_step.result (λ p. subst (λ i. Steps c.args.valid.now (instance_at c.args.instance.now) i c.args.m.now c.index_step.new.m) (sym c.in-Index.is) (p (instance_at c.args.instance.now))) c.index_step.ensures.ok

pub returns-in-Index-clause-room : goal.returns-in-Index-clause-room
returns-in-Index-clause-room c = λ r. c.index_step.ensures.room (instance_at c.args.instance.now) (subst (λ i. HasRoomFor c.args.valid.now (instance_at c.args.instance.now) i c.args.m.now) c.in-Index.is r)

pub branch_table-requires : goal.branch_table-requires
branch_table-requires c = (instance_at c.args.instance.now, subst (λ i. CanStep c.args.valid.now (instance_at c.args.instance.now) i c.args.m.now) c.in-BranchTable.is c.requires.can)

pub returns-in-BranchTable-clause-ok : goal.returns-in-BranchTable-clause-ok
returns-in-BranchTable-clause-ok c = subst (λ i. Steps c.args.valid.now (instance_at c.args.instance.now) i c.args.m.now c.branch_table.new.m) (sym c.in-BranchTable.is) (c.branch_table.ensures.steps (instance_at c.args.instance.now))

pub call_indirect-requires : goal.call_indirect-requires
call_indirect-requires c = subst (λ i. CanStep c.args.valid.now (instance_at c.args.instance.now) i c.args.m.now) c.in-CallIndirect.is c.requires.can

pub returns-in-CallIndirect-clause-ok : goal.returns-in-CallIndirect-clause-ok
returns-in-CallIndirect-clause-ok c = subst (λ i. Steps c.args.valid.now (instance_at c.args.instance.now) i c.args.m.now c.call_indirect.new.m) (sym c.in-CallIndirect.is) c.in_ok-call_indirect-in-CallIndirect.ensures.ok

pub constant-requires : goal.constant-requires
constant-requires c = (c.args.valid.now, instance_at c.args.instance.now, subst (λ i. CanStep c.args.valid.now (instance_at c.args.instance.now) i c.args.m.now) c.in-Const.is c.requires.can)

pub returns-in_ok-constant-in-Const-clause-ok : goal.returns-in_ok-constant-in-Const-clause-ok
returns-in_ok-constant-in-Const-clause-ok c = subst (λ i. Steps c.args.valid.now (instance_at c.args.instance.now) i c.args.m.now c.constant.new.m) (sym c.in-Const.is) (c.in_ok-constant-in-Const.ensures.ok c.args.valid.now (instance_at c.args.instance.now))

pub fence-requires : goal.fence-requires
fence-requires c = (c.args.valid.now, instance_at c.args.instance.now, subst (λ i. CanStep c.args.valid.now (instance_at c.args.instance.now) i c.args.m.now) c.in-Fence.is c.requires.can)

pub returns-in-Fence-clause-ok : goal.returns-in-Fence-clause-ok
returns-in-Fence-clause-ok c = subst (λ i. Steps c.args.valid.now (instance_at c.args.instance.now) i c.args.m.now c.fence.new.m) (sym c.in-Fence.is) (c.fence.ensures.steps c.args.valid.now (instance_at c.args.instance.now))

pub unreachable-requires : goal.unreachable-requires
unreachable-requires c =
    let k = c.requires.no_access in
    elim c.in-Memory.is [ inl e ↦ subst (λ i. IsNoAccess i) e.2 k | inr e ↦ elim e [ inl f ↦ subst (λ i. IsNoAccess i) f.1 k | inr f ↦ subst (λ i. IsNoAccess i) f.2 k ] ]
