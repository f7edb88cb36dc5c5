use Rattle.std.proofs.Common.{◌++◌, [], ◌∷◌, refl}
use Rattle.wasm_types.specs.declared.value.ValType.TheVariants.{I32}
use Rattle.std.specs.Prelude.{slice_get}
use Rattle.validator.specs.Table.{Fixed, if_some, seq}
use Rattle.validator.specs.Walk.{labels_of}
use Rattle.validator.proofs.Classes.{ok_as, stops_as, stops_wrong, label_class, no_label_class}
use Rattle.validator.proofs.instruction.step_branch_if.Goals as goal

pub returns-in_default-clause-stops : goal.returns-in_default-clause-stops
returns-in_default-clause-stops c = λ _. stops_wrong (λ fs. if_some (slice_get (labels_of fs) c.args.label) (λ takes. Fixed (takes ++ I32 ∷ []) takes)) c.args.stacks.now (no_label_class (λ takes. Fixed (takes ++ I32 ∷ []) takes) c.args.stacks.now c.args.label c.block_at.result c.block_at.ensures c.in_default.is)

pub returns-clause-goes : goal.returns-clause-goes
returns-clause-goes c =
    ok_as c.branch_if.result (λ fs. if_some (slice_get (labels_of fs) c.args.label) (λ takes. Fixed (takes ++ I32 ∷ []) takes)) (λ _. Fixed (seq c.in-Some.target.label ++ I32 ∷ []) (seq c.in-Some.target.label)) c.args.stacks.now c.branch_if.new.self
    (label_class (λ takes. Fixed (takes ++ I32 ∷ []) takes) c.args.stacks.now c.args.label c.block_at.result c.in-Some.target c.in-Some.target.label c.block_at.ensures c.in-Some.is refl) c.branch_if.ensures.goes

pub returns-clause-stops : goal.returns-clause-stops
returns-clause-stops c =
    λ e. stops_as (λ fs. if_some (slice_get (labels_of fs) c.args.label) (λ takes. Fixed (takes ++ I32 ∷ []) takes)) (λ _. Fixed (seq c.in-Some.target.label ++ I32 ∷ []) (seq c.in-Some.target.label)) c.args.stacks.now
    (label_class (λ takes. Fixed (takes ++ I32 ∷ []) takes) c.args.stacks.now c.args.label c.block_at.result c.in-Some.target c.in-Some.target.label c.block_at.ensures c.in-Some.is refl) (c.branch_if.ensures.stops e)
