-- Schedules: in which order threads go on.
use Rattle.std.specs.Prelude.{◌≡◌, ℕ, ◌+◌, ◌-◌, ◌&&◌, ℤ, pos, negsuc, List, [], ◌∷◌, ◌++◌, Option, Some, None, Result, Ok, Err, codes, length, replicate, nat_le, if◌then◌else◌}
use Rattle.std.specs.Str.{bytes_eq}
use Rattle.std.specs.Str.Parse.{signed_digits_value}
use Rattle.text_lines.specs.Parts.{words, lines}
use Rattle.text_lines.specs.Integers.{is_decimal}
use Rattle.event_core.specs.declared.pick.Pick.{Pick}
use Rattle.event_core.specs.declared.pick.Input.{Input}
use Rattle.event_core.specs.declared.pick.Input.TheVariants.{Go, TimeOut}
use Rattle.pick_schedule.specs.declared.fault.ScheduleFault.{ScheduleFault}
use Rattle.pick_schedule.specs.declared.fault.ScheduleFault.TheVariants as fault

abbrev pub in_range : ℕ → ℕ → ℤ → Option ℕ
in_range least most (pos n) = if nat_le least n && nat_le n most then Some n else None
in_range least most (negsuc n) = None

-- the integer in decimal that a text is, where it is in this range
abbrev pub number_in : ℕ → ℕ → List ℕ → Option ℕ
number_in least most text = if is_decimal text then in_range least most (signed_digits_value 10 text) else None

-- so many equal picks
abbrev pub picks_by : Input → Option ℕ → Option ℕ → Option (List Pick)
picks_by input None count = None
picks_by input (Some thread) None = None
picks_by input (Some thread) (Some count) = Some (replicate count (record { thread = thread; input = input }))

-- the picks of a line of these words: `out T` or `go T N`
abbrev pub picks_of : List (List ℕ) → Option (List Pick)
picks_of [] = None
picks_of (word ∷ []) = None
picks_of (word ∷ thread ∷ []) = if bytes_eq word (codes "out") then picks_by TimeOut (number_in 0 15 thread) (Some 1) else None
picks_of (word ∷ thread ∷ count ∷ []) = if bytes_eq word (codes "go") then picks_by Go (number_in 0 15 thread) (number_in 1 1000000 count) else None
picks_of (word ∷ thread ∷ count ∷ more ∷ others) = None

-- these picks, and those behind them
abbrev pub behind : List Pick → Result (List Pick) ℕ → Result (List Pick) ℕ
behind picks (Ok others) = Ok (picks ++ others)
behind picks (Err line) = Err line

-- a line's picks where there is room for so many, and what follows them
abbrev pub line_by : ℕ → ℕ → Option (List Pick) → (ℕ → Result (List Pick) ℕ) → Result (List Pick) ℕ
line_by number room None rest = Err number
line_by number room (Some picks) rest = if nat_le (length picks) room then behind picks (rest (room - length picks)) else Err number

-- the picks of lines that are numbered from `number` on
abbrev pub picks_from : ℕ → ℕ → List (List ℕ) → Result (List Pick) ℕ
picks_from number room [] = Ok []
picks_from number room (line ∷ lines) = line_by number room (picks_of (words line)) (λ left. picks_from (number + 1) left lines)

-- no bytes are no line
abbrev pub lines_in : List ℕ → List (List ℕ)
lines_in [] = []
lines_in (b ∷ bs) = lines (b ∷ bs)

-- the picks that a text spells, at most 1,000,000, or the number of its first faulty line, from 1 on
abbrev pub schedule_of : List ℕ → Result (List Pick) ℕ
schedule_of text = picks_from 1 1000000 (lines_in text)

-- want of memory, or this answer's line, whatever is wrong in it
abbrev pub IsFaultOf : Result (List Pick) ℕ → ScheduleFault → Type 0
IsFaultOf answer (fault.BadLine line cause) = answer ≡ Err line
IsFaultOf answer fault.NoMemory = Unit {0}
