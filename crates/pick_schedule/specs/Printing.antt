-- What a schedule is written as.
use Rattle.std.specs.Prelude.{◌≡◌, ℕ, ◌==◌, Bool, true, List, [], ◌∷◌, ◌++◌, codes, replicate, nat_le, if◌then◌else◌}
use Rattle.std.specs.List.{flat_map, list_all}
use Rattle.std.specs.Fmt.{decimal}
use Rattle.event_core.specs.declared.pick.Pick.{Pick}
use Rattle.event_core.specs.declared.pick.Input.{Input}
use Rattle.event_core.specs.declared.pick.Input.TheVariants.{Go, TimeOut}
use Rattle.pick_schedule.specs.declared.stretches.Stretch.{Stretch}

-- whether each pick is of a thread from 0 to 15
abbrev pub are_of_threads : List Pick → Bool
are_of_threads picks = list_all (λ pick. nat_le pick.thread 15) picks

-- each pick is of a thread from 0 to 15
abbrev pub AreOfThreads : List Pick → Type 0
AreOfThreads picks = are_of_threads picks ≡ true

-- a thread goes on, so many times
abbrev pub go_line : ℕ → ℕ → List ℕ
go_line thread times = codes "go " ++ (decimal thread ++ 32 ∷ decimal times)

-- the wait of a thread times out
abbrev pub out_line : ℕ → List ℕ
out_line thread = codes "out " ++ decimal thread

-- a pick that comes so many times: a line for all, or one for each that the wait times out
abbrev pub lines_by : Input → ℕ → ℕ → List (List ℕ)
lines_by Go thread times = if times == 0 then [] else (go_line thread times ∷ [])
lines_by TimeOut thread times = replicate times (out_line thread)

abbrev pub stretch_lines : Stretch → List (List ℕ)
stretch_lines stretch = lines_by stretch.pick.input stretch.pick.thread stretch.times

-- lines, each with its end
abbrev pub text_of : List (List ℕ) → List ℕ
text_of lines = flat_map (λ line. line ++ 10 ∷ []) lines

-- the text of stretches, one behind the other
abbrev pub schedule_text : List Stretch → List ℕ
schedule_text stretches = text_of (flat_map stretch_lines stretches)
