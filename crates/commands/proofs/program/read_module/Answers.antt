use Rattle.std.proofs.Common.{◌∙◌, sym, subst}
use Rattle.wasm_types.specs.declared.modules.Module.{Module}
use Rattle.validator.specs.Valid.{WellTyped}
use Rattle.commands.specs.Checks.{IsModule}
use Rattle.commands.proofs.program.read_module.Goals as goal

pub returns-in-Err-decode_beginning-clause-refused : goal.returns-in-Err-decode_beginning-clause-refused
returns-in-Err-decode_beginning-clause-refused g c =
    let f = c.in-Ok.ensures.found in
    (f.0, f.1, c.in-Err-decode_beginning.ensures.refused f.0 (c.deref.ensures.value ∙ f.2))

pub returns-in-Ok-validate-clause-found : goal.returns-in-Ok-validate-clause-found
returns-in-Ok-validate-clause-found g c =
    let f = c.in-Ok.ensures.found in
    let same = sym c.in-Ok-validate.ensures.same in
    record {
      bytes = f.0;
      held = f.1;
      is_module = subst (λ (m : Module). IsModule f.0 m) same (c.in-Ok-decode_beginning.ensures.found f.0 (c.deref.ensures.value ∙ f.2));
      typed = subst WellTyped same c.in-Ok-validate.ensures.typed;
    }

pub returns-clause-refused : goal.returns-clause-refused
returns-clause-refused g c =
    let f = c.in-Ok.ensures.found in
    (f.0, c.in-Ok-decode_beginning.module, f.1, c.in-Ok-decode_beginning.ensures.found f.0 (c.deref.ensures.value ∙ f.2), c.in-Err-validate.ensures.refuses)
