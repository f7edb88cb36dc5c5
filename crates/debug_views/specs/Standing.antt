-- Where threads stand, as notes behind their lines: ` at bump+5 from main+3`.
use Rattle.std.specs.Prelude.{ℕ, zero, suc, ◌+◌, Bool, false, List, [], ◌∷◌, ◌++◌, codes, cond, if◌then◌else◌, Option, Some, None}
use Rattle.std.specs.Fmt.{decimal, radix_digits}
use Rattle.binary_decoder.specs.Names.{function_name}
use Rattle.binary_decoder.specs.Offsets.{instruction_offset}
use Rattle.binary_decoder.specs.Printable.{fits_line}
use Rattle.integer_machine.specs.declared.standing.CodePlace.{CodePlace}
use Rattle.integer_machine.specs.Standing.{standing}
use Rattle.wasm_world.specs.ThreadCode.{ThreadAt as CodeThread}

-- by what places in code are written: a module's bytes, and whether instructions have their offsets there beside them
pub record PlaceForm : Type 0 where
  pub source : List ℕ
  pub offsets : Bool

-- the function by its name, or by its number where it has none that may be put into a line
abbrev pub title : Option (List ℕ) → ℕ → List ℕ
title (Some name) function = cond (fits_line name) name (decimal function)
title None function = decimal function

-- an offset in hexadecimal, as engines print it
abbrev pub offset_text : Option ℕ → List ℕ
offset_text None = []
offset_text (Some offset) = codes " 0x" ++ radix_digits 16 false offset

-- the offset of the instruction at a place, where offsets are asked for
abbrev pub offset_if : PlaceForm → CodePlace → Option ℕ
offset_if form p = if form.offsets then instruction_offset form.source p.function p.instruction else None

-- the function, and the number of the instruction that comes next in it
abbrev pub place_text : PlaceForm → CodePlace → List ℕ
place_text form p = title (function_name form.source p.function) p.function ++ (codes "+" ++ (decimal p.instruction ++ offset_text (offset_if form p)))

-- the function that runs comes first, then its callers
abbrev pub word_at : ℕ → List ℕ
word_at zero = codes " at "
word_at (suc depth) = codes " from "

abbrev pub frame_text : PlaceForm → ℕ → CodePlace → List ℕ
frame_text form depth p = word_at depth ++ place_text form p

-- functions that are numbered from `depth` on
abbrev pub frames_text : PlaceForm → ℕ → List CodePlace → List ℕ
frames_text form depth [] = []
frames_text form depth (p ∷ ps) = frame_text form depth p ++ frames_text form (depth + 1) ps

-- the functions that a thread is in; a thread that has ended is in none
abbrev pub note_of : PlaceForm → CodeThread → List ℕ
note_of form t = frames_text form 0 (standing t.state)
