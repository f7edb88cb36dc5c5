-- A log that takes just so many entries more.
use Rattle.std.specs.Prelude.{ℕ, zero, suc, Bool, true, false, List, [], ◌∷◌, ◌++◌, Option, Some, None}
use Rattle.rw_objects.specs.declared.entry.Entry.{Entry}

-- how many events may still be made behind a step, which is an event or not; None where it may not be made
abbrev pub left_behind : Bool → ℕ → Option ℕ
left_behind false left = Some left
left_behind true zero = None
left_behind true (suc left) = Some left

-- an entry behind others, where there may be one more
abbrev pub put_few : List Entry × ℕ → Entry → Option (List Entry × ℕ)
put_few (entries, zero) entry = None
put_few (entries, suc left) entry = Some (entries ++ entry ∷ [], left)
