-- Which gates a call opens. A gate is open where each touch of its entry would find what it is to find.
use Rattle.std.specs.Prelude.{ℕ, Bool, true, false, ◌==◌, ◌&&◌, cond, List, [], ◌∷◌, Option, Some, None, slice_set}
use Rattle.std.specs.List.{list_any}
use Rattle.std.specs.Borrow.{Bor}
use Rattle.rw_objects.specs.declared.count.Count.{Count}
use Rattle.rw_objects.specs.declared.touch.Mode.{Mode}
use Rattle.rw_objects.specs.declared.touch.Mode.TheVariants as mode
use Rattle.rw_objects.specs.declared.touch.Touch.{Touch}
use Rattle.rw_objects.specs.declared.entry.Entry.{Entry}
use Rattle.rw_objects.specs.declared.touch.Found.{Found}
use Rattle.rw_objects.specs.declared.touch.Found.TheVariants.{Read, Write}
use Rattle.rw_objects.specs.Touch.{object_of}

-- whether a touch would find what it is to find: a read its version, a write the read total besides
abbrev pub is_met : Found → Count → Bool
is_met (Read object version) here = version == here.version
is_met (Write object version reads) here = (version == here.version) && (reads == here.reads)

-- the first touch that would not
abbrev pub first_shut : List Found → (ℕ → Count) → Option Found
first_shut [] here = None
first_shut (f ∷ fs) here = cond (is_met f (here (object_of f))) (first_shut fs here) (Some f)

abbrev pub writes : Mode → Bool
writes mode.Read = false
writes mode.Write = true

-- whether a touch can be what lets another find that: a read raises the read total alone, for which no read waits
abbrev pub opens : Found → Touch → Bool
opens (Read object version) t = writes t.mode && (object == t.object)
opens (Write object version reads) t = object == t.object

-- whether touches, behind which objects count this, let a touch find that for which a seat waits, if it waits
abbrev pub is_opened : List Touch → (ℕ → Count) → Option Found → Bool
is_opened ts here None = false
is_opened ts here (Some f) = list_any (opens f) ts && is_met f (here (object_of f))

-- what a seat waits for before a call with this entry: nothing where the entry is not known, or its gate is open
abbrev pub awaited_before : (ℕ → Count) → Option (Bor Entry) → Option Found
awaited_before here None = None
awaited_before here (Some e) = first_shut e.now.found here

-- what seats wait for, once one of them waits for this. Where it waits for nothing, what it waited for last stands
-- there
abbrev pub waiting : List (Option Found) → ℕ → Option Found → List (Option Found)
waiting awaited seat None = awaited
waiting awaited seat (Some f) = slice_set awaited seat (Some f)
