use Rattle.std.proofs.Common.{◌≡◌, ◌∙◌, sym, ap, length, subst, ◌<◌, ◌^◌}
use Rattle.std.specs.Prelude.{option_map, IfNone, IfSome, Some}
use Rattle.wasm_types.specs.Nesting.{Nests}
use Rattle.wasm_types.specs.declared.modules.Body.{Body}
use Rattle.validator.specs.Valid.{IsOfFunction}
use Rattle.validator.specs.Targets.{targets_from}
use Rattle.validator.specs.Context.{context_of}
use Rattle.validator.proofs.CheckedNests.{checked_nests}
use Rattle.validator.proofs.Ruled.{has_some_type, kind_has_one_result, body_is_short, body_there, located, typed_at}
use Rattle.validator.proofs.valid.check_at.Goals as goal

pub unreachable-requires : goal.unreachable-requires
unreachable-requires c = has_some_type c.args.module.now c.args.function c.requires.rules c.requires.there (sym c.in_default.ensures)

pub check_function-requires-clause-short : goal.check_function-requires-clause-short
check_function-requires-clause-short c = body_is_short c.args.module.now c.args.function c.index-as_slice-function.result c.requires.rules (body_there c.args.module.now.bodies c.as_slice.result.now c.args.function c.index-as_slice-function.result c.as_slice.ensures c.requires.there c.index-as_slice-function.is)

pub check_function-requires-clause-one_result : goal.check_function-requires-clause-one_result
check_function-requires-clause-one_result c = kind_has_one_result c.args.module.now c.args.function c.in-Some.kind.now c.requires.rules (sym c.in-Some.ensures)

pub find-requires : goal.find-requires
find-requires c = subst (λ x. length x < 2 ^ 32) (sym c.as_slice-2.ensures) (body_is_short c.args.module.now c.args.function c.index-as_slice-function.result c.requires.rules (body_there c.args.module.now.bodies c.as_slice.result.now c.args.function c.index-as_slice-function.result c.as_slice.ensures c.requires.there c.index-as_slice-function.is))

pub returns-in-Err-clause-fault : goal.returns-in-Err-clause-fault
returns-in-Err-clause-fault c = subst (IsOfFunction c.args.module.now) (sym c.fault_of_function.ensures)
    (located c.args.module.now c.args.function c.in-Some.kind.now c.index-as_slice-function.result c.in-Err.found c.requires.before (sym c.in-Some.ensures) (body_there c.args.module.now.bodies c.as_slice.result.now c.args.function c.index-as_slice-function.result c.as_slice.ensures c.requires.there c.index-as_slice-function.is) c.in-Err.ensures.fault)

pub unreachable-requires-in-None : goal.unreachable-requires-in-None
unreachable-requires-in-None c =
    let none = subst (λ x. IfNone x (Nests c.as_slice-2.result.now → ⊥)) c.in-None.is c.in_ok-find.ensures.none in
    none (subst Nests (sym c.as_slice-2.ensures) (checked_nests (context_of c.args.module.now c.in-Some.kind.now c.index-as_slice-function.result) c.index-as_slice-function.result.code c.in-Ok.ensures.typed))

pub returns-clause-typed : goal.returns-clause-typed
returns-clause-typed c = typed_at c.args.module.now c.args.function c.in-Some.kind.now c.index-as_slice-function.result (sym c.in-Some.ensures) (body_there c.args.module.now.bodies c.as_slice.result.now c.args.function c.index-as_slice-function.result c.as_slice.ensures c.requires.there c.index-as_slice-function.is) c.in-Ok.ensures.typed

pub returns-clause-targets : goal.returns-clause-targets
returns-clause-targets c =
    let found = subst (λ x. IfSome x (λ t. t ≡ targets_from 0 c.as_slice-2.result.now)) c.in-Some-2.is c.in_ok-find.ensures.targets in
    ap (option_map (λ (body : Body). targets_from 0 body.code)) (body_there c.args.module.now.bodies c.as_slice.result.now c.args.function c.index-as_slice-function.result c.as_slice.ensures c.requires.there c.index-as_slice-function.is) ∙ ap (λ x. Some (targets_from 0 x)) (sym c.as_slice-2.ensures) ∙ ap (λ x. Some x) (sym found)
