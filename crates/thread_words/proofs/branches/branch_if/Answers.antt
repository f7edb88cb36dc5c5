use Rattle.wasm_types.specs.declared.value.Value.TheVariants as value
use Rattle.wasm_types.specs.declared.instruction.Instr.TheVariants as instr
use Rattle.wasm_types.specs.declared.instruction.IndexOp.TheVariants.{BranchIf}
use Rattle.thread_words.specs.Thread.{Local}
use Rattle.thread_words.proofs.Here.{next_fits}
use Rattle.thread_words.proofs.Landings.{branching_if, if_branches, if_stays}
use Rattle.thread_words.proofs.branches.branch_if.Goals as goal

pub i32_operand-condition-requires : goal.i32_operand-condition-requires
i32_operand-condition-requires c = let k = c.requires.1 in let p = branching_if c.args.valid.now c.requires.0 c.args.depth k.0 (Local k.1) c.args.m.now k.2 in (k.0, value.I32 p.by.bits, p.by.there)

pub drop_top-requires-clause-place : goal.drop_top-requires-clause-place
drop_top-requires-clause-place c = let k = c.requires.1 in next_fits c.args.valid.now c.requires.0 (instr.Index BranchIf c.args.depth) k.0 (Local k.1) c.args.m.now k.2

pub drop_top-requires-clause-enough : goal.drop_top-requires-clause-enough
drop_top-requires-clause-enough c = let k = c.requires.1 in (branching_if c.args.valid.now c.requires.0 c.args.depth k.0 (Local k.1) c.args.m.now k.2).by.enough

pub branch_to-requires : goal.branch_to-requires
branch_to-requires c =
    let k = c.requires.1 in
    let p = if_branches c.args.valid.now c.requires.0 c.args.depth k.0 k.1 c.args.m.now c.drop_top.new.m c.i32_operand-condition.result k.2 (λ s v o. c.i32_operand-condition.ensures s v o) c.if-condition-ne0.true c.drop_top.ensures in
    (p.0, k.1, p.1)

pub returns-then-condition-ne0-clause-steps : goal.returns-then-condition-ne0-clause-steps
returns-then-condition-ne0-clause-steps c = λ instance s after k.
    let p = if_branches c.args.valid.now instance c.args.depth s after c.args.m.now c.drop_top.new.m c.i32_operand-condition.result k (λ s v o. c.i32_operand-condition.ensures s v o) c.if-condition-ne0.true c.drop_top.ensures in
    c.branch_to.ensures.steps p.0 after p.1

pub returns-clause-steps : goal.returns-clause-steps
returns-clause-steps c = λ instance s after k.
    if_stays c.args.valid.now instance c.args.depth s after c.args.m.now c.drop_top.new.m c.i32_operand-condition.result k (λ s v o. c.i32_operand-condition.ensures s v o) c.if-condition-ne0.false c.drop_top.ensures
