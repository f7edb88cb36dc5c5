-- Places in a module's code.
use Rattle.std.specs.Prelude.{ℕ, false, List, [], ◌++◌, Option, Some, None, codes}
use Rattle.std.specs.Fmt.{radix_digits}
use Rattle.binary_decoder.specs.Offsets.{instruction_offset}
use Rattle.wasm_world.specs.CodePlace.{CodePlace}

-- the offset of the instruction at a place in the code of these bytes
abbrev pub offset_at : List ℕ → CodePlace → Option ℕ
offset_at source p = instruction_offset source p.function p.instruction

-- an offset as an instruction is referred to by it: `0x1f`
abbrev pub reference_of : Option ℕ → List ℕ
reference_of None = []
reference_of (Some offset) = codes "0x" ++ radix_digits 16 false offset
