use Rattle.std.proofs.Common.{◌≡◌, ◌∷◌, [], ap, ◌∙◌, arith, length, length-append, set, ◌-◌}
use Rattle.validator.proofs.Stacking.{set_at_end}
use Rattle.std.specs.Prelude.{vec_len}
use Rattle.validator.proofs.stacks.set_last.Goals as goal

pub returns-in-Some : goal.returns-in-Some
returns-in-Some c =
    λ front last e.
    let n : vec_len c.args.blocks.now - 1 ≡ length front = omega (arith, ap length e, length-append front (last ∷ [])) in
    ap (λ x. set x (vec_len c.args.blocks.now - 1) c.args.block) e ∙ set_at_end front last c.args.block (vec_len c.args.blocks.now - 1) n
