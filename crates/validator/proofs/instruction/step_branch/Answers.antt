use Rattle.std.proofs.Common.{refl}
use Rattle.std.specs.Prelude.{slice_get}
use Rattle.validator.specs.Table.{Leaves, if_some, seq}
use Rattle.validator.specs.Walk.{labels_of}
use Rattle.validator.proofs.Classes.{ok_as, stops_as, stops_wrong, label_class, no_label_class}
use Rattle.validator.proofs.instruction.step_branch.Goals as goal

pub returns-in_default-clause-stops : goal.returns-in_default-clause-stops
returns-in_default-clause-stops c = λ _. stops_wrong (λ fs. if_some (slice_get (labels_of fs) c.args.label) (λ takes. Leaves takes)) c.args.stacks.now (no_label_class (λ takes. Leaves takes) c.args.stacks.now c.args.label c.block_at.result c.block_at.ensures c.in_default.is)

pub returns-clause-goes : goal.returns-clause-goes
returns-clause-goes c =
    ok_as c.branch-stacks.result (λ fs. if_some (slice_get (labels_of fs) c.args.label) (λ takes. Leaves takes)) (λ _. Leaves (seq c.in-Some.target.label)) c.args.stacks.now c.branch-stacks.new.self
    (label_class (λ takes. Leaves takes) c.args.stacks.now c.args.label c.block_at.result c.in-Some.target c.in-Some.target.label c.block_at.ensures c.in-Some.is refl) c.branch-stacks.ensures.goes

pub returns-clause-stops : goal.returns-clause-stops
returns-clause-stops c =
    λ e. stops_as (λ fs. if_some (slice_get (labels_of fs) c.args.label) (λ takes. Leaves takes)) (λ _. Leaves (seq c.in-Some.target.label)) c.args.stacks.now
    (label_class (λ takes. Leaves takes) c.args.stacks.now c.args.label c.block_at.result c.in-Some.target c.in-Some.target.label c.block_at.ensures c.in-Some.is refl) (c.branch-stacks.ensures.stops e)
