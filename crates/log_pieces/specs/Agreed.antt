-- What a set of claims about one item comes to. It speaks of a set: of no order, and of no repeats.
use Rattle.std.specs.Prelude.{◌≡◌, Option, Some, None}
use Rattle.log_pieces.specs.declared.flat.Flat.{Flat}
use Rattle.log_pieces.specs.declared.flat.Flat.TheVariants.{Known, Clash}

-- nothing where nothing is claimed, the item where all claims are equal, a clash where two differ
abbrev pub IsAgreed : {T : Type 0} → (T → Type 0) → Option (Flat T) → Type 0
IsAgreed {T} claimed None = (x : T) → claimed x → ⊥
IsAgreed {T} claimed (Some (Known x)) = claimed x × ((y : T) → claimed y → y ≡ x)
IsAgreed {T} claimed (Some Clash) = (x : T) × (y : T) × claimed x × claimed y × (x ≡ y → ⊥)
