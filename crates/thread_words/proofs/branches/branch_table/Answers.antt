use Rattle.std.proofs.Common.{◌∙◌, ap}
use Rattle.wasm_types.specs.declared.value.Value.TheVariants as value
use Rattle.wasm_types.specs.declared.instruction.Instr.TheVariants as instr
use Rattle.thread_words.specs.Thread.{Local, function_at}
use Rattle.thread_words.specs.declared.stacks.Level.{Level}
use Rattle.thread_words.proofs.Here.{next_fits}
use Rattle.thread_words.proofs.Landings.{branching_by, table_branches}
use Rattle.thread_words.proofs.branches.branch_table.Goals as goal

pub i32_operand-at-requires : goal.i32_operand-at-requires
i32_operand-at-requires c = let k = c.requires.1 in let p = branching_by c.args.valid.now c.requires.0 c.args.range c.args.default k.0 (Local k.1) c.args.m.now k.2 in (k.0, value.I32 p.by.bits, p.by.there)

pub label_at-depth-requires : goal.label_at-depth-requires
label_at-depth-requires c =
    let k = c.requires.1 in
    let p = branching_by c.args.valid.now c.requires.0 c.args.range c.args.default k.0 (Local k.1) c.args.m.now k.2 in
    (k.2.function, p.labels, ap (λ (y : Level). function_at c.args.valid.now y.function) k.2.lies.here ∙ k.2.found, p.are)

pub drop_top-requires-clause-place : goal.drop_top-requires-clause-place
drop_top-requires-clause-place c = let k = c.requires.1 in next_fits c.args.valid.now c.requires.0 (instr.BranchTable c.args.range c.args.default) k.0 (Local k.1) c.args.m.now k.2

pub drop_top-requires-clause-enough : goal.drop_top-requires-clause-enough
drop_top-requires-clause-enough c = let k = c.requires.1 in (branching_by c.args.valid.now c.requires.0 c.args.range c.args.default k.0 (Local k.1) c.args.m.now k.2).by.enough

pub branch_to-requires : goal.branch_to-requires
branch_to-requires c =
    let k = c.requires.1 in
    let p = table_branches c.args.valid.now c.requires.0 c.args.range c.args.default k.0 k.1 c.args.m.now c.drop_top.new.m c.i32_operand-at.result c.label_at-depth.result k.2 (λ s v o. c.i32_operand-at.ensures s v o) c.label_at-depth.ensures c.drop_top.ensures in
    (p.0, k.1, p.1)

pub returns-clause-steps : goal.returns-clause-steps
returns-clause-steps c = λ instance s after k.
    let p = table_branches c.args.valid.now instance c.args.range c.args.default s after c.args.m.now c.drop_top.new.m c.i32_operand-at.result c.label_at-depth.result k (λ s v o. c.i32_operand-at.ensures s v o) c.label_at-depth.ensures c.drop_top.ensures in
    c.branch_to.ensures.steps p.0 after p.1
