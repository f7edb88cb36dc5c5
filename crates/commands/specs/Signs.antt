-- Lines of a report that show that its run is caught.
use Rattle.std.specs.Prelude.{ℕ, ◌==◌, ◌||◌, ◌&&◌, Bool, false, List, ◌∷◌, [], ◌++◌, Option, Some, None, codes, cond, length, not, slice_get}
use Rattle.std.specs.List.{list_any, filter, flat_map, starts_with}
use Rattle.std.specs.Borrow.{Bor}
use Rattle.std.specs.Str.{bytes_eq}
use Rattle.text_lines.specs.Parts.{lines, words}

-- what a thread came to that trapped, or that waits at the end, begins so
abbrev pub is_fault : Option (List ℕ) → Bool
is_fault None = false
is_fault (Some word) = bytes_eq word (codes "trap") || bytes_eq word (codes "waiting")

abbrev pub begins_with_one : List (Bor (List ℕ)) → List ℕ → Bool
begins_with_one texts line = list_any (λ text. starts_with (λ a b. a == b) line text.now) texts

-- where faults are looked for, `thread T trap ..` and `thread T waiting`; else a line that begins with one of the texts
abbrev pub is_sign : Bool → List (Bor (List ℕ)) → List ℕ → Bool
is_sign faults texts line = cond faults (is_fault (slice_get (words line) 2)) (begins_with_one texts line)

abbrev pub has_sign : Bool → List (Bor (List ℕ)) → List ℕ → Bool
has_sign faults texts report = list_any (is_sign faults texts) (lines report)

-- the lines that are signs, each with its end
abbrev pub signs_in : Bool → List (Bor (List ℕ)) → List (List ℕ) → List ℕ
signs_in faults texts lines = flat_map (λ line. line ++ 10 ∷ []) (filter (is_sign faults texts) lines)

-- faults are looked for where no text is
abbrev pub wants_faults : List (Bor (List ℕ)) → List (Bor (List ℕ)) → Bool
wants_faults until unless = (length until == 0) && (length unless == 0)

-- a run with this report is caught: a line of it is a sign, or none begins as one should
abbrev pub is_caught : List (Bor (List ℕ)) → List (Bor (List ℕ)) → List ℕ → Bool
is_caught until unless report = has_sign (wants_faults until unless) until report || (not (length unless == 0) && not (has_sign false unless report))
