-- What is claimed of places, page by page.
use Rattle.std.specs.Prelude.{◌≡◌, ℕ, zero, suc, ◌+◌, ◌*◌, ◌/◌, ◌%◌, ◌^◌, ◌<◌, ◌≤◌, Bool, true, List, [], ◌∷◌, ◌++◌, Some, is_none, count_by, take}
use Rattle.std.specs.Ordering.{nat_cmp}
use Rattle.std.specs.List.Sorted.{IsStrictlySortedBy}
use Rattle.std.specs.Map.{keys_of}
use Rattle.log_pieces.specs.declared.flat.Flat.{Flat}
use Rattle.log_pieces.specs.declared.page.Page.{Page}
use Rattle.log_pieces.specs.Keyed.{value_at}
use Rattle.log_pieces.specs.PackedClaim.{Reads, Rising, read_pairs}
use Rattle.log_pieces.specs.Pages.{pairs_of, IsPage, AreJoined}

-- the pairs of the page of that number, at their places
abbrev pub located : {T : Type 0} → ℕ → List (ℕ × Flat T) → List (ℕ × Flat T)
located number [] = []
located number (e ∷ es) = (128 * number + e.0, e.1) ∷ located number es

-- the pairs of all pages
abbrev pub claims : {T : Type 0} → Reads T → List (ℕ × Page) → List (ℕ × Flat T)
claims read [] = []
claims read (e ∷ pages) = located e.0 (pairs_of read e.1) ++ claims read pages

-- pages by rising number, whose bytes spell their pairs
pub record ArePages {T : Type 0} (spelled : T → List ℕ) (read : Reads T) (Fits : T → Type 0) (pages : List (ℕ × Page)) : Type 0 where
  pub ordered : IsStrictlySortedBy nat_cmp (keys_of pages)
  pub each : (number : ℕ) (page : Page) → value_at nat_cmp pages number ≡ Some page → IsPage spelled read Fits page
  -- their places have 32 bits
  pub low : (number : ℕ) (page : Page) → value_at nat_cmp pages number ≡ Some page → number < 2 ^ 25

-- the pairs that are left of a page, by their count and bytes, and those of the pages behind it
abbrev pub left_of : {T : Type 0} → Reads T → ℕ → ℕ → List ℕ → List (ℕ × Page) → List (ℕ × Flat T)
left_of read number left rest pages = located number (read_pairs read left rest) ++ claims read pages

-- places of these pages have 32 bits
abbrev pub AreLow : List (ℕ × Page) → Type 0
AreLow [] = Unit {0}
AreLow (e ∷ pages) = (e.0 < 2 ^ 25) × AreLow pages

-- what is read of the pages has places of 32 bits
pub record LeftLow (number : ℕ) (pages : List (ℕ × Page)) : Type 0 where
  pub first : number < 2 ^ 25
  pub others : AreLow pages

-- of a page's places from one on, these pairs are what is claimed
pub record IsAhead {T : Type 0} (claimed : List (ℕ × Flat T)) (number low : ℕ) (ps : List (ℕ × Flat T)) : Type 0 where
  pub rising : Rising low ps 128
  pub ahead : (place : ℕ) → place / 128 ≡ number → low ≤ place % 128 → value_at nat_cmp claimed place ≡ value_at nat_cmp ps (place % 128)

-- a run of neighbouring places begins where the place before is not claimed
abbrev pub begins : {X : Type 0} → List (ℕ × X) → ℕ → Bool
begins es zero = true
begins es (suc before) = is_none (value_at nat_cmp es before)

-- how many runs of neighbouring places there are
abbrev pub runs : {X : Type 0} → List (ℕ × X) → ℕ
runs es = count_by (λ e. begins es e.0) es

-- the first so many of the other claims were joined
abbrev pub claims_partly : {T : Type 0} → (T → T → Bool) → List (ℕ × Flat T) → List (ℕ × Flat T) → List (ℕ × Flat T) → Type 0
claims_partly eq a b c = (j : ℕ) × AreJoined eq a (take j b) c
