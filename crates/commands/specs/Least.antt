-- Numbers whose runs are caught, and their lines.
use Rattle.std.specs.Prelude.{◌≡◌, ◌<◌, ◌+◌, ℕ, zero, suc, Bool, true, false, List, [], ◌++◌, Option, Some, None}

module _ (Comes : ℕ → Bool → Type 0) where
  -- of so many numbers from one on none is caught
  abbrev pub NoneIsCaught : ℕ → ℕ → Type 0
  NoneIsCaught from count = (k : ℕ) → k < count → Comes (from + k) false

  -- the least of them that is caught, or that none is
  abbrev pub IsLeastCaught : ℕ → ℕ → Option ℕ → Type 0
  IsLeastCaught from count None = NoneIsCaught from count
  IsLeastCaught from count (Some number) = (k : ℕ) × (k < count) × (number ≡ from + k) × NoneIsCaught from k × Comes number true

module _ (IsLine : ℕ → List ℕ → Type 0) where
  -- a line for each of so many numbers, from one on
  abbrev pub AreListed : ℕ → ℕ → List ℕ → Type 0
  AreListed from zero text = text ≡ []
  AreListed from (suc count) text = (before : List ℕ) × (line : List ℕ) × AreListed from count before × IsLine (from + count) line × (text ≡ before ++ line)
