-- Pages: what is claimed of 128 places, in few bytes.
use Rattle.std.specs.Prelude.{◌≡◌, ℕ, Bool, List}
use Rattle.std.specs.Ordering.{nat_cmp}
use Rattle.log_pieces.specs.declared.flat.Flat.{Flat}
use Rattle.log_pieces.specs.declared.page.Page.{Page}
use Rattle.log_pieces.specs.Flat.{flat_joined}
use Rattle.log_pieces.specs.Keyed.{value_at, option_joined}
use Rattle.log_pieces.specs.PackedClaim.{Reads, read_pairs, Spelled, placed}

-- the pairs of a page
abbrev pub pairs_of : {T : Type 0} → Reads T → Page → List (ℕ × Flat T)
pairs_of read page = read_pairs read page.count page.bytes.items

-- its bytes spell its pairs
abbrev pub IsPage : {T : Type 0} → (T → List ℕ) → Reads T → (T → Type 0) → Page → Type 0
IsPage spelled read Fits page = Spelled spelled Fits page.count page.bytes.items (pairs_of read page)

-- at each place, what was claimed there joined with what more is claimed
abbrev pub AreJoined : {T : Type 0} → (T → T → Bool) → List (ℕ × Flat T) → List (ℕ × Flat T) → List (ℕ × Flat T) → Type 0
AreJoined eq old more new =
    (place : ℕ) → value_at nat_cmp new place ≡ option_joined (flat_joined eq) (value_at nat_cmp old place) (value_at nat_cmp more place)

-- the same, where the items of consecutive places are claimed
abbrev pub ClaimsJoined : {T : Type 0} → (T → T → Bool) → List (ℕ × Flat T) → ℕ → List T → List (ℕ × Flat T) → Type 0
ClaimsJoined eq old first items new = AreJoined eq old (placed first items) new
