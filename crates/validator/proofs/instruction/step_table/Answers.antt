use Rattle.std.proofs.Common.{◌++◌, [], ◌∷◌, true, false, is_none, ap, sym, ◌∙◌}
use Rattle.wasm_types.specs.declared.value.ValType.TheVariants.{I32}
use Rattle.validator.specs.Context.{context_of, labels_in}
use Rattle.validator.specs.Table.{Leaves, table_class, seq}
use Rattle.validator.specs.Walk.{at_frames}
use Rattle.validator.proofs.Classes.{ok_as, stops_as, stops_wrong, table_judged, table_without}
use Rattle.validator.proofs.instruction.step_table.Goals as goal

pub returns-in_default-block_at-clause-stops : goal.returns-in_default-block_at-clause-stops
returns-in_default-block_at-clause-stops c = λ _. stops_wrong (λ fs. table_class (at_frames (context_of c.args.module.now c.args.kind.now c.args.body.now) fs) (labels_in c.args.body.now.labels c.args.range) c.args.default) c.args.stacks.now
    (table_without (context_of c.args.module.now c.args.kind.now c.args.body.now) (labels_in c.args.body.now.labels c.args.range) c.in-Some.labels.now c.args.stacks.now c.args.default c.block_at.result (sym (c.in-Some.ensures ∙ ap (λ x. labels_in x c.args.range) c.as_slice.ensures)) c.block_at.ensures c.in_default-block_at.is)

pub returns-in-Some-other_label-clause-stops : goal.returns-in-Some-other_label-clause-stops
returns-in-Some-other_label-clause-stops c = λ _. stops_wrong (λ fs. table_class (at_frames (context_of c.args.module.now c.args.kind.now c.args.body.now) fs) (labels_in c.args.body.now.labels c.args.range) c.args.default) c.args.stacks.now
    (table_judged (context_of c.args.module.now c.args.kind.now c.args.body.now) (labels_in c.args.body.now.labels c.args.range) c.in-Some.labels.now c.args.stacks.now c.args.default c.block_at.result c.in-Some-block_at.target (is_none c.other_label.result) false
    (sym (c.in-Some.ensures ∙ ap (λ x. labels_in x c.args.range) c.as_slice.ensures)) c.block_at.ensures c.in-Some-block_at.is c.other_label.ensures (ap is_none c.in-Some-other_label.is))

pub returns-clause-goes : goal.returns-clause-goes
returns-clause-goes c = ok_as c.branch_by_index.result (λ fs. table_class (at_frames (context_of c.args.module.now c.args.kind.now c.args.body.now) fs) (labels_in c.args.body.now.labels c.args.range) c.args.default) (λ _. Leaves (seq c.in-Some-block_at.target.label ++ I32 ∷ [])) c.args.stacks.now c.branch_by_index.new.self
    (table_judged (context_of c.args.module.now c.args.kind.now c.args.body.now) (labels_in c.args.body.now.labels c.args.range) c.in-Some.labels.now c.args.stacks.now c.args.default c.block_at.result c.in-Some-block_at.target (is_none c.other_label.result) true
    (sym (c.in-Some.ensures ∙ ap (λ x. labels_in x c.args.range) c.as_slice.ensures)) c.block_at.ensures c.in-Some-block_at.is c.other_label.ensures (ap is_none c.in_default-other_label.is))
    c.branch_by_index.ensures.goes

pub returns-clause-stops : goal.returns-clause-stops
returns-clause-stops c = λ e. stops_as (λ fs. table_class (at_frames (context_of c.args.module.now c.args.kind.now c.args.body.now) fs) (labels_in c.args.body.now.labels c.args.range) c.args.default) (λ _. Leaves (seq c.in-Some-block_at.target.label ++ I32 ∷ [])) c.args.stacks.now
    (table_judged (context_of c.args.module.now c.args.kind.now c.args.body.now) (labels_in c.args.body.now.labels c.args.range) c.in-Some.labels.now c.args.stacks.now c.args.default c.block_at.result c.in-Some-block_at.target (is_none c.other_label.result) true
    (sym (c.in-Some.ensures ∙ ap (λ x. labels_in x c.args.range) c.as_slice.ensures)) c.block_at.ensures c.in-Some-block_at.is c.other_label.ensures (ap is_none c.in_default-other_label.is))
    (c.branch_by_index.ensures.stops e)
