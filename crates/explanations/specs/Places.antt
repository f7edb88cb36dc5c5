-- Where the cause of a refusal stands, as text: the name of a file or of an option, and perhaps what of it.
use Rattle.std.specs.Prelude.{ℕ, List, ◌++◌, codes}
use Rattle.std.specs.Fmt.{decimal}
use Rattle.explanations.specs.declared.place.FilePlace.{FilePlace}
use Rattle.explanations.specs.declared.place.FilePlace.TheVariants as place

abbrev pub at_byte : List ℕ → ℕ → List ℕ
at_byte file offset = file ++ (codes ": byte " ++ decimal offset)

abbrev pub at_line : List ℕ → ℕ → List ℕ
at_line file line = file ++ (codes ": line " ++ decimal line)

abbrev pub at_instruction : List ℕ → ℕ → ℕ → List ℕ
at_instruction file function instruction = file ++ (codes ": function " ++ (decimal function ++ (codes ", instruction " ++ decimal instruction)))

abbrev pub at_event : List ℕ → ℕ → ℕ → List ℕ
at_event file thread at = file ++ (codes ": thread " ++ (decimal thread ++ (codes ", place " ++ decimal at)))

abbrev pub place_text : FilePlace → List ℕ
place_text (place.Whole name) = name.now
place_text (place.Byte file offset) = at_byte file.now offset
place_text (place.Line file line) = at_line file.now line
place_text (place.Instruction file function instruction) = at_instruction file.now function instruction
place_text (place.Event file thread at) = at_event file.now thread at
