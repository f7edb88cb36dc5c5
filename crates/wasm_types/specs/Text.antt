-- The texts of values, traps, outcomes and keys.
use Rattle.std.specs.Prelude.{◌/◌, ◌%◌, ◌^◌, false, [], ◌∷◌, ℕ, List, ◌++◌, Some, None, codes}
use Rattle.std.specs.Int.{w32, w64, cast_signed}
use Rattle.std.specs.List.{flat_map}
use Rattle.std.specs.Fmt.{decimal, signed_decimal, digit_glyph}
use Rattle.wasm_types.specs.declared.key.RunKey.{RunKey}
use Rattle.wasm_types.specs.declared.key.Profile.{Profile}
use Rattle.wasm_types.specs.declared.key.Profile.TheVariants.{One, Two}
use Rattle.wasm_types.specs.declared.value.Value.{Value}
use Rattle.wasm_types.specs.declared.value.Value.TheVariants.{I32, I64}
use Rattle.wasm_types.specs.declared.trap.Trap.{Trap}
use Rattle.wasm_types.specs.declared.trap.Trap.TheVariants.{Unreachable, DivideByZero, IntegerOverflow, OutOfBounds, TypeMismatch, UndefinedElement, UninitializedElement, StackExhausted, UnalignedAtomic, MemoryNotShared}
use Rattle.wasm_types.specs.declared.outcome.Outcome.{Outcome}
use Rattle.wasm_types.specs.declared.outcome.Outcome.TheVariants.{Running, Waiting, Done, Trapped}

-- the type, and the number read as signed by two's complement
abbrev pub value_text : Value → List ℕ
value_text (I32 bits) = codes "i32 " ++ signed_decimal (cast_signed w32 bits)
value_text (I64 bits) = codes "i64 " ++ signed_decimal (cast_signed w64 bits)

abbrev pub trap_text : Trap → List ℕ
trap_text Unreachable = codes "trap 1 unreachable"
trap_text DivideByZero = codes "trap 2 divide by zero"
trap_text IntegerOverflow = codes "trap 3 integer overflow"
trap_text OutOfBounds = codes "trap 4 out of bounds"
trap_text TypeMismatch = codes "trap 5 type mismatch"
trap_text UndefinedElement = codes "trap 6 undefined element"
trap_text UninitializedElement = codes "trap 7 uninitialized element"
trap_text StackExhausted = codes "trap 8 stack exhausted"
trap_text UnalignedAtomic = codes "trap 9 unaligned atomic"
trap_text MemoryNotShared = codes "trap 10 memory not shared"

-- done without a value is `none`
abbrev pub outcome_text : Outcome → List ℕ
outcome_text Running = codes "running"
outcome_text Waiting = codes "waiting"
outcome_text (Done None) = codes "none"
outcome_text (Done (Some value)) = value_text value
outcome_text (Trapped trap) = trap_text trap

-- two lower-case hexadecimal digits, the high one first
abbrev pub byte_text : ℕ → List ℕ
byte_text byte = digit_glyph false (byte / 16) ∷ digit_glyph false (byte % 16) ∷ []

-- the block's size, which profile 2 alone has
abbrev pub profile_text : Profile → List ℕ
profile_text One = []
profile_text (Two power) = codes ":" ++ decimal (2 ^ power)

abbrev pub key_text : RunKey → List ℕ
key_text k = flat_map byte_text k.digest ++ codes ":" ++ decimal k.run ++ profile_text k.profile
