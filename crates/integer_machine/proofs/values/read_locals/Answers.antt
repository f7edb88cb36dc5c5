use Rattle.std.proofs.Common.{◌++◌, ◌-◌, length, take, drop, ap, ◌∙◌}
use Rattle.wasm_types.specs.declared.modules.FuncType.{FuncType}
use Rattle.wasm_types.specs.declared.modules.Body.{Body}
use Rattle.wasm_types.specs.Locals.{locals_of}
use Rattle.thread_words.specs.Thread.{function_at}
use Rattle.integer_machine.specs.Meaning.{typed}
use Rattle.integer_machine.proofs.Frames.{params_have, groups_have, locals_are}
use Rattle.integer_machine.proofs.values.read_locals.Goals as goal

pub first_values-requires : goal.first_values-requires
first_values-requires c =
    let k = c.requires.1 in
    let found = ap (function_at c.args.valid.now) k.is ∙ k.found in
    let params = c.as_slice-params.ensures ∙ ap (λ (x : FuncType). x.params) (c.type_of_function.ensures k.its found) in
    params_have c.args.valid.now c.requires.0 c.args.frame.function c.args.frame.words.now c.as_slice-params.result.now k params

pub push_groups-requires : goal.push_groups-requires
push_groups-requires c =
    let k = c.requires.1 in
    let found = ap (function_at c.args.valid.now) k.is ∙ k.found in
    let params = c.as_slice-params.ensures ∙ ap (λ (x : FuncType). x.params) (c.type_of_function.ensures k.its found) in
    let groups = c.as_slice-groups.ensures ∙ ap (λ (x : Body). x.locals) (c.body_of_function.ensures k.its found) in
    groups_have c.args.valid.now c.requires.0 c.args.frame.function c.args.frame.words.now c.as_slice-params.result.now c.as_slice-groups.result.now k params groups

pub returns : goal.returns
returns c = λ h k.
    let words = c.args.frame.words.now in
    let found = ap (function_at c.args.valid.now) k.is ∙ k.found in
    let params = c.as_slice-params.ensures ∙ ap (λ (x : FuncType). x.params) (c.type_of_function.ensures k.its found) in
    let groups = c.as_slice-groups.ensures ∙ ap (λ (x : Body). x.locals) (c.body_of_function.ensures k.its found) in
    let first = c.as_slice-params.result.now in
    c.in_ok-push_groups.ensures ∙ ap (λ x. x ++ typed (locals_of c.as_slice-groups.result.now) (take (length words - length first) (drop (length first) words))) c.in_ok-values.ensures
    ∙ locals_are c.args.valid.now h c.args.frame.function words first c.as_slice-groups.result.now k params groups
