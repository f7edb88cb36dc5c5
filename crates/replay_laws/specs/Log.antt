-- Logs: what is known of each event and of each thread's end.
use Rattle.std.specs.Prelude.{◌≡◌, ◌⊎◌, ℕ, ◌<◌, ◌≤◌, Option, Some, None}
use Rattle.rw_objects.specs.declared.entry.Entry.{Entry}
use Rattle.log_pieces.specs.declared.end.End.{End}
use Rattle.log_pieces.specs.declared.flat.Flat.{Flat}
use Rattle.log_pieces.specs.declared.flat.Flat.TheVariants.{Known, Clash}
use Rattle.wasm_types.specs.declared.sizes.TheConstants.{MOST_STEPS}

-- by thread and place nothing, an entry or a clash, and by thread nothing, an end or a clash
pub record Log : Type 0 where
  pub entry : ℕ → ℕ → Option (Flat Entry)
  pub end : ℕ → Option (Flat End)

abbrev pub known : {A : Type 0} → Option A → Option (Flat A)
known None = None
known (Some a) = Some (Known a)

-- the join of a and b is b
abbrev pub IsBelow : {A : Type 0} → Option (Flat A) → Option (Flat A) → Type 0
IsBelow None b = Unit {0}
IsBelow (Some a) b = (b ≡ Some a) ⊎ (b ≡ Some Clash)

-- log a knows no more than log b
pub record IsBelowLog (a b : Log) : Type 0 where
  pub entries : (t p : ℕ) → IsBelow (a.entry t p) (b.entry t p)
  pub ends : (t : ℕ) → IsBelow (a.end t) (b.end t)

-- a thread's end is known, and so is each entry below its places; no other entry is claimed
pub record IsCompleteThread (log : Log) (t : ℕ) : Type 0 where
  pub end : End
  pub is_known : log.end t ≡ Some (Known end)
  pub entries : (p : ℕ) → p < end.places → (item : Entry) × (log.entry t p ≡ Some (Known item))
  pub no_more : (p : ℕ) → end.places ≤ p → log.entry t p ≡ None

-- a complete log of n threads: all of them is known, and nothing is claimed of others
pub record IsCompleteLog (n : ℕ) (log : Log) : Type 0 where
  pub threads : (t : ℕ) → t < n → IsCompleteThread log t
  pub no_other_end : (t : ℕ) → n ≤ t → log.end t ≡ None
  pub no_other_entry : (t p : ℕ) → n ≤ t → log.entry t p ≡ None

-- no thread's known end has more than 1,000,000,000 steps
abbrev pub HasLimits : Log → Type 0
HasLimits log = (t : ℕ) (end : End) → log.end t ≡ Some (Known end) → end.steps ≤ MOST_STEPS
