-- Versions and read totals behind touches, and gates (LeBlanc and Mellor-Crummey 1987).
use Rattle.std.specs.Prelude.{ℕ, ◌==◌, ◌&&◌, Bool, true, if◌then◌else◌, List, [], ◌∷◌}
use Rattle.rw_objects.specs.declared.count.Count.{Count}
use Rattle.rw_objects.specs.declared.touch.Mode.{Mode}
use Rattle.rw_objects.specs.declared.touch.Mode.TheVariants as mode
use Rattle.rw_objects.specs.declared.touch.Found.{Found}
use Rattle.rw_objects.specs.declared.touch.Found.TheVariants.{Read, Write}
use Rattle.rw_objects.specs.Counts.{count_after}
use Rattle.rw_objects.specs.Touch.{object_of}

abbrev pub mode_of : Found → Mode
mode_of (Read o v) = mode.Read
mode_of (Write o v r) = mode.Write

-- what a touch leaves of an object's count
abbrev pub count_with : ℕ → Found → Count → Count
count_with o f c = if object_of f == o then count_after (mode_of f) c else c

-- what touches leave of it, one behind the other
abbrev pub count_behind : ℕ → List Found → Count → Count
count_behind o [] c = c
count_behind o (f ∷ fs) c = count_behind o fs (count_with o f c)

-- the object has the version that was found, and for a write the read total too
abbrev pub meets : Found → Count → Bool
meets (Read o v) c = c.version == v
meets (Write o v r) c = c.version == v && c.reads == r

-- an open gate: each touched object is as it was found
abbrev pub is_open : List Found → (ℕ → Count) → Bool
is_open [] counts = true
is_open (f ∷ fs) counts = meets f (counts (object_of f)) && is_open fs counts
