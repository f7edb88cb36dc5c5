-- A module of two bodies, whose offsets were counted by hand. Before each line of its bytes stands what begins where.
use Rattle.std.specs.Prelude.{ℕ, List, [], ◌∷◌}

abbrev pub example : List ℕ
example =
    -- 0: the preamble
    0x00 ∷ 0x61 ∷ 0x73 ∷ 0x6D ∷ 0x01 ∷ 0x00 ∷ 0x00 ∷ 0x00 ∷
    -- 8: the section of types, one of functions with no parameters and no results
    0x01 ∷ 0x04 ∷ 0x01 ∷ 0x60 ∷ 0x00 ∷ 0x00 ∷
    -- 14: the section of functions, two of this type
    0x03 ∷ 0x03 ∷ 0x02 ∷ 0x00 ∷ 0x00 ∷
    -- 19: the code section, with 18 bytes and two bodies
    0x0A ∷ 0x12 ∷ 0x02 ∷
    -- 22: the first body, with eight bytes and two locals
    0x08 ∷ 0x01 ∷ 0x02 ∷ 0x7F ∷
    -- 26: i32.const 300; 29: drop; 30: end
    0x41 ∷ 0xAC ∷ 0x02 ∷ 0x1A ∷ 0x0B ∷
    -- 31: the second body, with seven bytes and no locals
    0x07 ∷ 0x00 ∷
    -- 33: atomic.fence; 36: call 0; 38: end
    0xFE ∷ 0x03 ∷ 0x00 ∷ 0x10 ∷ 0x00 ∷ 0x0B ∷ []
