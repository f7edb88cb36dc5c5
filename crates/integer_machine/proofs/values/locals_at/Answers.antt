use Rattle.std.proofs.Common.{Some, sym, ap, ◌∙◌}
use Rattle.std.specs.Prelude.{option_map}
use Rattle.integer_machine.proofs.values.locals_at.Goals as goal

pub read_locals-requires : goal.read_locals-requires
read_locals-requires c = let k = c.in-Some.ensures.some c.args.valid.now c.requires in (k.0, k.2)

pub returns-in_ok-read_locals-in-Some : goal.returns-in_ok-read_locals-in-Some
returns-in_ok-read_locals-in-Some c =
    let k = c.in-Some.ensures.some c.args.valid.now c.requires in
    ap Some (c.in_ok-read_locals-in-Some.ensures k.0 k.2) ∙ sym (ap (option_map (λ h. h.activation.locals)) k.1)
