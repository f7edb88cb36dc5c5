use Rattle.std.proofs.Common.{◌∙◌, ◌<◌, sym, ap, subst, length, get_or}
use Rattle.wasm_types.specs.declared.modules.Module.{Module}
use Rattle.validator.specs.Exports.{exported_function}
use Rattle.validator.proofs.Names.{exported_at, exported_nowhere, number_within}
use Rattle.validator.proofs.valid.Valid.export.Goals as goal

pub returns-in_err-number : goal.returns-in_err-number
returns-in_err-number c =
    c.from_residual.ensures
    ∙ sym (exported_nowhere c.self.inside.module.exports c.args.name.now (sym (c.in_err-number.ensures.value ∙ c.self.invariant.1 c.args.name.now c.utf8.name)))
    ∙ ap (λ (m : Module). exported_function m.exports c.args.name.now) c.self.view_is

pub bounds-as_slice-number : goal.bounds-as_slice-number
bounds-as_slice-number c =
    subst (λ exports. c.in_ok-number.field-0.now < length exports) (sym c.as_slice.ensures)
    (number_within c.self.inside.module.exports c.args.name.now c.in_ok-number.field-0.now (sym (c.in_ok-number.ensures.value ∙ c.self.invariant.1 c.args.name.now c.utf8.name)))

pub returns : goal.returns
returns c =
    c.function_of.ensures
    ∙ sym (exported_at c.self.inside.module.exports c.args.name.now c.in_ok-number.field-0.now c.index-as_slice-number.result
    (sym (c.in_ok-number.ensures.value ∙ c.self.invariant.1 c.args.name.now c.utf8.name))
    (c.index-as_slice-number.is ∙ ap (λ exports. get_or exports c.in_ok-number.field-0.now c.index-as_slice-number.result) c.as_slice.ensures))
    ∙ ap (λ (m : Module). exported_function m.exports c.args.name.now) c.self.view_is
