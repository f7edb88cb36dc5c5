-- Versions and read totals, and what touches find and leave of them (LeBlanc and Mellor-Crummey 1987).
use Rattle.std.specs.Prelude.{[], ◌∷◌, ◌≡◌, Bool, true, false, cond, ◌==◌, ℕ, ◌+◌, ◌<◌, ◌^◌, List, map, Option, Some, None, slice_index_or}
use Rattle.rw_objects.specs.declared.touch.Mode.{Mode}
use Rattle.rw_objects.specs.declared.touch.Mode.TheVariants.{Read, Write}
use Rattle.rw_objects.specs.declared.touch.Touch.{Touch}
use Rattle.rw_objects.specs.declared.count.Count.{Count}
use Rattle.rw_objects.specs.declared.touch.Found.{Found}
use Rattle.rw_objects.specs.declared.touch.Found.TheVariants as found
use Rattle.rw_objects.specs.Space.{mode_at}

abbrev pub no_count : Count
no_count = record { version = 0; reads = 0 }

abbrev pub no_counts : ℕ → Count
no_counts o = no_count

-- what a list of counts has at an object
abbrev pub count_at : List Count → ℕ → Count
count_at counts o = slice_index_or counts o no_count

-- a read adds one to the total; a write sets it to 0 and adds one to the version
abbrev pub count_after : Mode → Count → Count
count_after Read c = record { version = c.version; reads = c.reads + 1 }
count_after Write c = record { version = c.version + 1; reads = 0 }

abbrev pub count_after_if : Option Mode → Count → Count
count_after_if None c = c
count_after_if (Some m) c = count_after m c

abbrev pub counts_after : List Touch → (ℕ → Count) → ℕ → Count
counts_after ts counts o = count_after_if (mode_at ts o) (counts o)

-- a touch finds the version, and a write finds the read total too
abbrev pub found_as : Mode → ℕ → Count → Found
found_as Read o c = found.Read o c.version
found_as Write o c = found.Write o c.version c.reads

abbrev pub found_by : Touch → Count → Found
found_by t c = found_as t.mode t.object c

abbrev pub all_found : List Touch → (ℕ → Count) → List Found
all_found ts counts = map (λ t. found_by t (counts t.object)) ts

-- neither number is the greatest u64
abbrev pub CanCount : Count → Type 0
CanCount c = (c.version + 1 < 2 ^ 64) × (c.reads + 1 < 2 ^ 64)

-- an object is among the touches
abbrev pub is_touched : List Touch → ℕ → Bool
is_touched [] o = false
is_touched (t ∷ ts) o = cond (t.object == o) true (is_touched ts o)

-- the touched objects can be counted
abbrev pub CanCountAll : List Touch → List Count → Type 0
CanCountAll ts counts = (o : ℕ) → is_touched ts o ≡ true → CanCount (count_at counts o)
