-- Claims as the bytes by which they are kept.
use Rattle.std.specs.Prelude.{◌≡◌, ℕ, List, Option, Some, None}
use Rattle.std.specs.Borrow.{Bor}
use Rattle.log_pieces.specs.Packed.{Reads}
use Rattle.log_pieces.specs.declared.flat.Flat.{Flat}
use Rattle.log_pieces.specs.declared.flat.Flat.TheVariants.{Known, Clash}

module _ {T : Type 0} (read : Reads T) where
  -- the item that was read, or a clash
  abbrev pub claim_of : Option (T × List ℕ) → Flat T
  claim_of None = Clash
  claim_of (Some x) = Known x.0

  -- the item at the front of bytes, or a clash where there are none
  abbrev pub claim_in : Option (Bor (List ℕ)) → Flat T
  claim_in None = Clash
  claim_in (Some bytes) = claim_of (read bytes.now)

  -- an item stands at the front of the bytes, if there are any
  abbrev pub IsClaim : Option (Bor (List ℕ)) → Type 0
  IsClaim None = Unit {0}
  IsClaim (Some bytes) = (x : T) × (rest : List ℕ) × (read bytes.now ≡ Some (x, rest))

  -- the claim is a clash, or the item at the front of the bytes
  abbrev pub IsKeptIn : Flat T → Option (Bor (List ℕ)) → Type 0
  IsKeptIn claim None = claim ≡ Clash
  IsKeptIn claim (Some bytes) = (x : T) × (rest : List ℕ) × (claim ≡ Known x) × (read bytes.now ≡ Some (x, rest))
