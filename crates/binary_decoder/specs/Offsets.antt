-- The offset of each instruction of a module: that of its first byte in the module's bytes, counted from 0.
-- WebAssembly Core 1.0, binary format: the code section is a vector of bodies, each a size and a content of that size.
-- A content is a vector of groups of locals, and then instructions, one behind the other.
-- A text that ends at an offset `end` begins at `end - length text`. What a reader leaves of it ends at that offset
-- too.
-- A module of which a part is damaged has offsets nonetheless: what stands before the damage counts.
use Rattle.std.specs.Prelude.{ℕ, ◌-◌, false, List, [], ◌∷◌, length, drop, Option, Some, None, Ok, Err, option_and_then, ◌==◌, if◌then◌else◌}
use Rattle.std.specs.List.{slice_get}
use Rattle.wasm_types.specs.declared.modules.LocalGroup.{LocalGroup}
use Rattle.binary_decoder.specs.Fault.{Reading, ◌>>=◌}
use Rattle.binary_decoder.specs.Reading.{u32_at, byte_vector_at, vector_at}
use Rattle.binary_decoder.specs.Reader.{instr_at, group_at}
use Rattle.binary_decoder.specs.Names.{whole_items, part_at}

-- the next instruction, of which its offset is taken; no labels stand before its own
unfoldable pub offset_at : ℕ → List ℕ → Reading ℕ
offset_at end bytes = instr_at [] bytes >>= λ i. Ok (end - length bytes, i.1)

-- a vector of groups of locals, the count of which keeps no limit here
abbrev pub locals_of : List ℕ → Reading (List LocalGroup)
locals_of = vector_at (group_at false 0)

-- the instructions behind the locals; each has a byte at least
abbrev pub offsets_behind : ℕ → Reading (List LocalGroup) → List ℕ
offsets_behind end (Err e) = []
offsets_behind end (Ok p) = whole_items (offset_at end) (length p.1) p.1

-- the next body, of which its instructions' offsets are taken
unfoldable pub body_offsets_at : ℕ → List ℕ → Reading (List ℕ)
body_offsets_at end bytes = byte_vector_at bytes >>= λ p. Ok (offsets_behind (end - length p.1) (locals_of p.0), p.1)

-- behind the count of bodies, that many
abbrev pub bodies_behind : ℕ → Reading ℕ → List (List ℕ)
bodies_behind end (Err e) = []
bodies_behind end (Ok p) = whole_items (body_offsets_at end) p.0 p.1

-- the next section, and the offset at which it ends
unfoldable pub section_end_at : ℕ → List ℕ → Reading ((ℕ × List ℕ) × ℕ)
section_end_at end bytes = part_at bytes >>= λ p. Ok ((p.0, end - length p.1), p.1)

-- the content of the first code section, which has id 10, and the offset at which it ends
abbrev pub first_code : List ((ℕ × List ℕ) × ℕ) → Option (List ℕ × ℕ)
first_code [] = None
first_code (s ∷ ss) = if s.0.0 == 10 then Some (s.0.1, s.1) else first_code ss

-- each section has a byte at least; the preamble has eight bytes
abbrev pub code_of : List ℕ → Option (List ℕ × ℕ)
code_of bytes = first_code (whole_items (section_end_at (length bytes)) (length (drop 8 bytes)) (drop 8 bytes))

abbrev pub bodies_in : Option (List ℕ × ℕ) → List (List ℕ)
bodies_in None = []
bodies_in (Some code) = bodies_behind code.1 (u32_at code.0)

-- the offset of an instruction of a body, both counted from 0. In this profile imports are memories, so the body of a
-- number is that of the function of the same number.
abbrev pub instruction_offset : List ℕ → ℕ → ℕ → Option ℕ
instruction_offset bytes function instruction = option_and_then (λ offsets. slice_get offsets instruction) (slice_get (bodies_in (code_of bytes)) function)
