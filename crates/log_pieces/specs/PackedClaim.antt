-- Items in few bytes: pairs of a place in a page and what is claimed there, one behind the other.
use Rattle.std.specs.Prelude.{◌≡◌, ℕ, zero, suc, ◌+◌, ◌-◌, ◌≤◌, List, [], ◌∷◌, ◌++◌, length, Option, Some, None, nat_lt, if◌then◌else◌}
use Rattle.std.specs.Option.{option_and_then}
use Rattle.std.specs.List.{flat_map}
pub use Rattle.log_pieces.specs.Packed.{Reads, ReadsBack, taken}
use Rattle.log_pieces.specs.declared.flat.Flat.{Flat}
use Rattle.log_pieces.specs.declared.flat.Flat.TheVariants.{Known, Clash}

-- a place and its item; 128 more, and nothing behind it, for a clash
abbrev pub claim_bytes : {T : Type 0} → (T → List ℕ) → ℕ → Flat T → List ℕ
claim_bytes spelled place (Known x) = place ∷ spelled x
claim_bytes spelled place Clash = (place + 128) ∷ []

abbrev pub pair_bytes : {T : Type 0} → (T → List ℕ) → ℕ × Flat T → List ℕ
pair_bytes spelled e = claim_bytes spelled e.0 e.1

abbrev pub read_pair : {T : Type 0} → Reads T → Reads (ℕ × Flat T)
read_pair read [] = None
read_pair read (mark ∷ rest) =
    if nat_lt mark 128 then option_and_then (λ x. Some ((mark, Known x.0), x.1)) (read rest) else Some ((mark - 128, Clash), rest)

-- the place that was read and the rest, and what is claimed there
abbrev pub place_and_rest : {T : Type 0} → Option ((ℕ × Flat T) × List ℕ) → Option (ℕ × List ℕ)
place_and_rest None = None
place_and_rest (Some x) = Some (x.0.0, x.1)

abbrev pub item_of : {T : Type 0} → Option ((ℕ × Flat T) × List ℕ) → Option (Flat T)
item_of None = None
item_of (Some x) = Some x.0.1

-- a pair that was read, and those behind it
abbrev pub pairs_from : {P : Type 0} → (List ℕ → List P) → Option (P × List ℕ) → List P
pairs_from later None = []
pairs_from later (Some x) = x.0 ∷ later x.1

-- as many pairs as can be read, up to a count
abbrev pub read_pairs : {T : Type 0} → Reads T → ℕ → List ℕ → List (ℕ × Flat T)
read_pairs read zero bytes = []
read_pairs read (suc count) bytes = pairs_from (read_pairs read count) (read_pair read bytes)

-- keys rise, from one on and below another
abbrev pub Rising : {X : Type 0} → ℕ → List (ℕ × X) → ℕ → Type 0
Rising low [] high = low ≤ high
Rising low (e ∷ es) high = (low ≤ e.0) × Rising (suc e.0) es high

-- an item has a spelling
abbrev pub FitsFlat : {T : Type 0} → (T → Type 0) → Flat T → Type 0
FitsFlat Fits (Known x) = Fits x
FitsFlat Fits Clash = Unit {0}

-- pairs that a page may have, from one place on
abbrev pub FitPairs : {T : Type 0} → (T → Type 0) → List (ℕ × Flat T) → Type 0
FitPairs Fits [] = Unit {0}
FitPairs Fits (e ∷ es) = FitsFlat Fits e.1 × FitPairs Fits es

-- the bytes spell these pairs, whose places rise below 128
pub record Spelled {T : Type 0} (spelled : T → List ℕ) (Fits : T → Type 0) (count : ℕ) (bytes : List ℕ) (ps : List (ℕ × Flat T)) : Type 0 where
  pub parts : bytes ≡ flat_map (pair_bytes spelled) ps
  pub many : length ps ≡ count
  pub rising : Rising 0 ps 128
  pub fits : FitPairs Fits ps

-- items at consecutive places from a first one on
abbrev pub placed : {T : Type 0} → ℕ → List T → List (ℕ × Flat T)
placed first [] = []
placed first (x ∷ xs) = (first, Known x) ∷ placed (suc first) xs

-- what stands at a place, and then what stands behind it
abbrev pub found_at : {T : Type 0} → ℕ → Option (Flat T) → List (ℕ × Flat T) → List (ℕ × Flat T)
found_at place None after = after
found_at place (Some x) after = (place, x) ∷ after

-- of these pairs, spelled by these bytes: what stands at a place, the bytes from it on and those behind it
pub record IsSpot {T : Type 0} (spelled : T → List ℕ) (Fits : T → Type 0) (ps : List (ℕ × Flat T)) (bytes : List ℕ) (place : ℕ) (from : List ℕ) (found : Option (Flat T)) (behind : List ℕ) : Type 0 where
  pub before : List (ℕ × Flat T)
  pub after : List (ℕ × Flat T)
  pub parts : ps ≡ before ++ found_at place found after
  pub front : bytes ≡ flat_map (pair_bytes spelled) before ++ from
  pub back : behind ≡ flat_map (pair_bytes spelled) after
  pub rest : from ≡ flat_map (pair_bytes spelled) (found_at place found after)
  pub low : Rising 0 before place
  pub high : Rising (suc place) after 128
  pub fit_before : FitPairs Fits before
  pub fit_after : FitPairs Fits after
