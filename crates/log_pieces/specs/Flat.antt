-- The join of two claims about one item.
use Rattle.std.specs.Prelude.{Bool, if◌then◌else◌}
use Rattle.log_pieces.specs.declared.flat.Flat.{Flat}
use Rattle.log_pieces.specs.declared.flat.Flat.TheVariants.{Known, Clash}

-- equal items stay, all else is a clash
abbrev pub flat_joined : {T : Type 0} → (T → T → Bool) → Flat T → Flat T → Flat T
flat_joined eq (Known x) (Known y) = if eq x y then Known x else Clash
flat_joined eq (Known x) Clash = Clash
flat_joined eq Clash b = Clash
