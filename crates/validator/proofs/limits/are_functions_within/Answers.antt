use Rattle.std.proofs.Common.{◌≡◌, ◌∙◌, ap, subst, length, ◌<◌, get_or, ℕ, List, ◌+◌}
use Rattle.std.specs.Prelude.{slice_index, min}
use Rattle.wasm_types.specs.declared.modules.Body.{Body}
use Rattle.wasm_types.specs.declared.modules.FuncType.{FuncType}
use Rattle.wasm_types.specs.declared.modules.LocalGroup.{LocalGroup}
use Rattle.wasm_types.specs.Locals.{locals_of}
use Rattle.wasm_types.specs.Limits.{params_of}
use Rattle.validator.proofs.Small.{function_more, function_past}
use Rattle.validator.proofs.limits.are_functions_within.Goals as goal

pub returns-then-count-gt1024 : goal.returns-then-count-gt1024
returns-then-count-gt1024 c =
    function_past c.args.«module».now c.loop-function.function c.count_params-params.result c.count_locals-count.result c.index-bodies-function.result c.requires
    (subst (λ (xs : List Body). c.loop-function.function < length xs) c.as_slice-bodies.ensures c.loop-function-test.true)
    (c.count_params-params.ensures ∙ ap (λ (ts : List FuncType). params_of ts (slice_index c.as_slice-functions.result.now c.loop-function.function)) c.as_slice.ensures ∙ ap (λ (fs : List ℕ). params_of c.args.«module».now.types (slice_index fs c.loop-function.function)) c.as_slice-functions.ensures)
    (subst (λ (xs : List Body). c.count_locals-count.result ≡ min (c.count_params-params.result + length (locals_of (get_or xs c.loop-function.function c.index-bodies-function.result).locals)) 18446744073709551615) c.as_slice-bodies.ensures
    (subst (λ (gs : List LocalGroup). c.count_locals-count.result ≡ min (c.count_params-params.result + length (locals_of gs)) 18446744073709551615) c.as_slice-in-loop-function.ensures c.count_locals-count.ensures))
    c.if-count-gt1024.true

pub loop-function-preserved : goal.loop-function-preserved
loop-function-preserved c =
    function_more c.args.«module».now c.loop-function.function c.count_params-params.result c.count_locals-count.result c.index-bodies-function.result c.requires
    (subst (λ (xs : List Body). c.loop-function.function < length xs) c.as_slice-bodies.ensures c.loop-function-test.true)
    (c.count_params-params.ensures ∙ ap (λ (ts : List FuncType). params_of ts (slice_index c.as_slice-functions.result.now c.loop-function.function)) c.as_slice.ensures ∙ ap (λ (fs : List ℕ). params_of c.args.«module».now.types (slice_index fs c.loop-function.function)) c.as_slice-functions.ensures)
    (subst (λ (xs : List Body). c.count_locals-count.result ≡ min (c.count_params-params.result + length (locals_of (get_or xs c.loop-function.function c.index-bodies-function.result).locals)) 18446744073709551615) c.as_slice-bodies.ensures
    (subst (λ (gs : List LocalGroup). c.count_locals-count.result ≡ min (c.count_params-params.result + length (locals_of gs)) 18446744073709551615) c.as_slice-in-loop-function.ensures c.count_locals-count.ensures))
    c.if-count-gt1024.false c.loop-function.invariant
