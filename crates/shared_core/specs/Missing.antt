-- How many calls have to be entered, at the least, before the objects of an entry are as it met them. A call raises the
-- version of an object by at most one, and its read total by at most one.
use Rattle.std.specs.Prelude.{ℕ, ◌+◌, ◌-◌, ◌^◌, ◌&&◌, ◌==◌, min, max, cond, nat_le, List, [], ◌∷◌, Option, Some, None}
use Rattle.rw_objects.specs.declared.count.Count.{Count}
use Rattle.rw_objects.specs.declared.touch.Found.{Found}
use Rattle.rw_objects.specs.declared.touch.Found.TheVariants.{Read, Write}
use Rattle.rw_objects.specs.Touch.{object_of}

-- what is missing at one number to another, which it may have passed
abbrev pub up_to : ℕ → ℕ → Option ℕ
up_to wanted here = cond (nat_le here wanted) (Some (wanted - here)) None

-- for one touch: a read waits for the version, and a write for the version and then for the read total
abbrev pub missing_touch : Found → Count → Option ℕ
missing_touch (Read object version) here = up_to version here.version
missing_touch (Write object version reads) here = cond (version == here.version) (up_to reads here.reads) (up_to version here.version)

-- the greater one, where neither was passed
abbrev pub greater_of : ℕ → Option ℕ → Option ℕ
greater_of most None = None
greater_of most (Some calls) = Some (max most calls)

-- for all touches, and at least `most`
abbrev pub missing_from : Option ℕ → List Found → (ℕ → Count) → Option ℕ
missing_from None fs here = None
missing_from (Some most) [] here = Some most
missing_from (Some most) (f ∷ fs) here = missing_from (greater_of most (missing_touch f (here (object_of f)))) fs here

abbrev pub missing_calls : List Found → (ℕ → Count) → Option ℕ
missing_calls fs here = missing_from (Some 0) fs here

-- with how many calls a gate can open, where `length` were entered, and it was shut with `seen`. Where nothing is
-- missing and none was entered since, it stays shut
abbrev pub opens_at : ℕ → ℕ → Option ℕ → Option ℕ
opens_at length seen None = None
opens_at length seen (Some calls) = cond (calls == 0 && nat_le length seen) None (Some (min (length + calls) (2 ^ 64 - 1)))
