-- The names and the offsets that are kept.
use Rattle.std.specs.Prelude.{◌≡◌, ℕ, ◌+◌, suc, List, [], ◌∷◌, length, Option, None, option_map, option_and_then, string_bytes, nat_lt, if◌then◌else◌}
use Rattle.std.specs.List.{slice_get, concat}
use Rattle.std.specs.Ordering.{nat_cmp}
use Rattle.std.specs.BTreeMap.{get}
use Rattle.binary_decoder.specs.declared.names.FunctionNames.{FunctionNames}
use Rattle.binary_decoder.specs.declared.offsets.InstructionOffsets.{InstructionOffsets}

-- the name of a function, if one is kept
abbrev pub name_of : FunctionNames → ℕ → Option (List ℕ)
name_of names function = option_map string_bytes (get nat_cmp names.names function)

-- of the items before `end`, the one of this index from `start` on
abbrev pub item_between : List ℕ → ℕ → ℕ → ℕ → Option ℕ
item_between items index start end = if nat_lt (start + index) end then slice_get items (start + index) else None

-- the item of this index in a list of this number, where the lists stand one behind the other, and `starts` has how
-- many items stand before each list, and before the end
abbrev pub item_in : List ℕ → List ℕ → ℕ → ℕ → Option ℕ
item_in items starts number index =
    option_and_then (λ start. option_and_then (λ end. item_between items index start end) (slice_get starts (suc number))) (slice_get starts number)

-- the offset of an instruction of a function, if one is kept
abbrev pub offset_of : InstructionOffsets → ℕ → ℕ → Option ℕ
offset_of kept function instruction = item_in kept.offsets.items kept.starts.items function instruction

-- how many items stand before each list, where so many stand before the first, and how many before the end
abbrev pub starts_of : ℕ → List (List ℕ) → List ℕ
starts_of before [] = before ∷ []
starts_of before (b ∷ bs) = before ∷ starts_of (before + length b) bs

-- just the offsets of these bodies are kept
abbrev pub Holds : InstructionOffsets → List (List ℕ) → Type 0
Holds kept bodies = (kept.offsets.items ≡ concat bodies) × (kept.starts.items ≡ starts_of 0 bodies)
