use Rattle.std.proofs.Common.{◌≡◌, Some, refl, sym, subst, length, slice_get, rules}
use Rattle.std.proofs.lemmas.Option.{slice_get_read}
use Rattle.wasm_types.specs.declared.modules.Module.{Module}
use Rattle.instruction_groups.specs.Groups.{Describes}
use Rattle.validator.proofs.valid.Valid.groups.Goals as goal

pub returns-in-Some-clause-groups : goal.returns-in-Some-clause-groups
returns-in-Some-clause-groups c = λ body e.
    let there : slice_get c.self.inside.groups.items c.args.function ≡ Some c.in-Some.table.now =
    let found = c.in-Some.ensures.lookup in
    subst (λ xs. slice_get xs c.args.function ≡ Some c.in-Some.table.now) c.as_slice.ensures.value
    (slice_get_read c.as_slice.result.now (length c.as_slice.result.now) c.args.function c.in-Some.table.now refl found.3.0 found.1) in
    let whole : slice_get c.self.inside.module.bodies c.args.function ≡ Some body = subst (λ (m : Module). slice_get m.bodies c.args.function ≡ Some body) (sym c.self.view_is) e in
    let same : c.as_slice-in-Some.result.now ≡ c.in-Some.table.now.items = search rules in
    subst (Describes body.code) (sym same) (c.self.invariant.3.each c.args.function c.in-Some.table.now there body whole)
