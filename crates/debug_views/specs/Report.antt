-- The report of a run's end.
use Rattle.std.specs.Prelude.{ℕ, zero, suc, ◌+◌, ◌*◌, ◌/◌, ◌==◌, List, [], ◌∷◌, ◌++◌, codes, length, take, drop, if◌then◌else◌, slice_get, unwrap_or}
use Rattle.std.specs.Int.{w64, to_be_bytes}
use Rattle.std.specs.List.{list_all, flat_map}
use Rattle.std.specs.Fmt.{decimal}
use Rattle.wasm_types.specs.declared.sizes.TheConstants.{PAGE_SIZE}
use Rattle.wasm_types.specs.declared.outcome.Outcome.{Outcome}
use Rattle.wasm_types.specs.Text.{byte_text, outcome_text}
use Rattle.event_core.specs.End.{RunEnd}

-- the 16 bytes of a row
abbrev pub bytes_of_row : List ℕ → ℕ → List ℕ
bytes_of_row memory row = take 16 (drop (row * 16) memory)

-- a row's address, in its low 32 bits, and its bytes
abbrev pub shown : ℕ → List ℕ → List ℕ
shown address bytes = flat_map byte_text (drop 4 (to_be_bytes w64 address)) ++ 32 ∷ (flat_map byte_text bytes ++ 10 ∷ [])

-- a row that is all zero is left out
abbrev pub row_text : List ℕ → ℕ → List ℕ
row_text memory row = if list_all (λ b. b == 0) (bytes_of_row memory row) then [] else shown (row * 16) (bytes_of_row memory row)

-- the first rows, so many
abbrev pub rows_text : List ℕ → ℕ → List ℕ
rows_text memory zero = []
rows_text memory (suc row) = rows_text memory row ++ row_text memory row

-- the note of a thread, which is empty where there is none of its number
abbrev pub note_at : List (List ℕ) → ℕ → List ℕ
note_at notes thread = unwrap_or (slice_get notes thread) []

abbrev pub thread_text : ℕ → Outcome → List ℕ → List ℕ
thread_text thread outcome note = codes "thread " ++ (decimal thread ++ 32 ∷ (outcome_text outcome ++ (note ++ 10 ∷ [])))

-- threads that are numbered from `thread` on, each with its note
abbrev pub threads_text : List (List ℕ) → ℕ → List Outcome → List ℕ
threads_text notes thread [] = []
threads_text notes thread (outcome ∷ outcomes) = thread_text thread outcome (note_at notes thread) ++ threads_text notes (thread + 1) outcomes

-- the report with these notes of where threads stand
abbrev pub noted_text : List (List ℕ) → RunEnd → List ℕ
noted_text notes end = codes "pages " ++ (decimal (length end.memory / PAGE_SIZE) ++ 10 ∷ (rows_text end.memory (length end.memory / 16) ++ threads_text notes 0 end.outcomes))

abbrev pub report_text : RunEnd → List ℕ
report_text end = noted_text [] end
