-- One of the eight parts, kept for an operation that touches no other.
use Rattle.std.specs.Prelude.{◌≡◌, ◌≢◌, ℕ, List, false}
use Rattle.rw_objects.specs.declared.touch.Touch.{Touch}
use Rattle.shared_parts.specs.Parts.{has_lane}
use Rattle.shared_parts.specs.Eights.{Kept, IsKept, IsHere}
use Rattle.shared_parts.specs.declared.one.OneOf.{OneOf}
use Rattle.shared_parts.specs.declared.one.OneOf.TheVariants as of

abbrev pub One : Type 0 → Type 0
One P = OneOf (Kept P) (Kept P) (Kept P) (Kept P) (Kept P) (Kept P) (Kept P) (Kept P)

-- its number
abbrev pub lane_of : {P : Type 0} → One P → ℕ
lane_of (of.Zero k) = 0
lane_of (of.One k) = 1
lane_of (of.Two k) = 2
lane_of (of.Three k) = 3
lane_of (of.Four k) = 4
lane_of (of.Five k) = 5
lane_of (of.Six k) = 6
lane_of (of.Seven k) = 7

-- what is kept of it
abbrev pub kept_of : {P : Type 0} → One P → Kept P
kept_of (of.Zero k) = k
kept_of (of.One k) = k
kept_of (of.Two k) = k
kept_of (of.Three k) = k
kept_of (of.Four k) = k
kept_of (of.Five k) = k
kept_of (of.Six k) = k
kept_of (of.Seven k) = k

-- it is kept as it is touched, and no other part is
pub record CoversOne {P : Type 0} (ts : List Touch) (one : One P) : Type 0 where
  pub kept : IsKept (lane_of one) ts (kept_of one)
  pub others : (i : ℕ) → i ≢ lane_of one → has_lane i ts ≡ false

-- what is here of it has these values
abbrev pub IsHereOne : {P Value : Type 0} → (P → ℕ → Value) → (ℕ → Value) → One P → Type 0
IsHereOne held values one = IsHere held (lane_of one) values (kept_of one)
