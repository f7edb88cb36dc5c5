-- Claims of places that are the same: the same places, with the same claims.
use Rattle.std.specs.Prelude.{ℕ, ◌==◌, ◌&&◌, Bool, true, false, List}
use Rattle.std.specs.Cmp.Lexicographic.{pointwise}
use Rattle.log_pieces.specs.declared.flat.Flat.{Flat}
use Rattle.log_pieces.specs.declared.flat.Flat.TheVariants.{Known, Clash}

-- the same item, or two clashes
abbrev pub flat_eq : {T : Type 0} → (T → T → Bool) → Flat T → Flat T → Bool
flat_eq eq (Known x) (Known y) = eq x y
flat_eq eq (Known x) Clash = false
flat_eq eq Clash (Known y) = false
flat_eq eq Clash Clash = true

abbrev pub claims_eq : {T : Type 0} → (T → T → Bool) → List (ℕ × Flat T) → List (ℕ × Flat T) → Bool
claims_eq {T} eq = pointwise (λ (p q : ℕ × Flat T). p.0 == q.0 && flat_eq eq p.1 q.1)
