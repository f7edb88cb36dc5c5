use Rattle.std.proofs.Common.{List, refl, rules, slice_get, sym, ap, ◌∙◌}
use Rattle.std.proofs.lemmas.Option.{slice_get_read}
use Rattle.wasm_types.specs.declared.instruction.Instr.{Instr}
use Rattle.adapter.proofs.Told.{told_there}
use Rattle.adapter.proofs.disassembly.told_at.Goals as goal

pub returns : goal.returns
returns c =
    let found = c.in-Some.ensures.lookup in
    told_there c.args.code.now c.args.body.now c.args.function c.args.number c.in-Ok.instruction c.in-Some.found.now _ _ (search rules) (search rules)
    (ap (λ (is : List Instr). slice_get is c.in-Ok.instruction) (sym c.as_slice.ensures) ∙ slice_get_read c.as_slice.result.now _ c.in-Ok.instruction c.in-Some.found.now refl (found.3).0 found.1)
    (search rules) (search rules)
