-- Numbers in a memory's bytes, little-endian, and what an access answers and stores (WebAssembly Core 1.0, loads and
-- stores; threads proposal, atomic read-modify-writes).
use Rattle.std.specs.Prelude.{ℕ, ◌+◌, ◌-◌, ◌*◌, ◌%◌, ◌^◌, Bool, cond, ◌==◌, nat_le, List, ◌++◌, length, take, drop, Option, Some, None, bit_and, bit_or, bit_xor}
use Rattle.std.specs.Int.{Width, from_le_bytes, to_le_bytes, cast_signed, cast_unsigned}
use Rattle.wasm_types.specs.declared.sizes.TheConstants.{PAGE_SIZE}
use Rattle.wasm_types.specs.declared.value.Value.{Value}
use Rattle.wasm_types.specs.declared.instruction.Extension.{Extension}
use Rattle.wasm_types.specs.declared.instruction.Extension.TheVariants.{Signed, Unsigned}
use Rattle.wasm_types.specs.declared.instruction.Load.{Load}
use Rattle.wasm_types.specs.declared.instruction.Load.TheVariants as load
use Rattle.wasm_types.specs.declared.instruction.RmwOp.{RmwOp}
use Rattle.wasm_types.specs.declared.instruction.RmwOp.TheVariants.{Add, Subtract, And, Or, Xor, Exchange}
use Rattle.wasm_types.specs.Values.{value_of}
use Rattle.wasm_types.specs.Accesses.{narrow_type, narrow_width, type_width}

-- ---- numbers in bytes

-- the number of that width at a place
abbrev pub number_at : Width → ℕ → List ℕ → ℕ
number_at w at bytes = from_le_bytes w (drop at bytes)

-- bytes with others put over them from a place on
abbrev pub overwrite : ℕ → List ℕ → List ℕ → List ℕ
overwrite at new bytes = take at bytes ++ (new ++ drop (at + length new) bytes)

-- bytes with a number's low bits, as many as the width has, put at a place
abbrev pub with_number : Width → ℕ → ℕ → List ℕ → List ℕ
with_number w at n bytes = overwrite at (to_le_bytes w n) bytes

abbrev pub with_number_if : Width → ℕ → Option ℕ → List ℕ → List ℕ
with_number_if w at None bytes = bytes
with_number_if w at (Some n) bytes = with_number w at n bytes

-- an access of so many bytes at an address ends within so many pages
abbrev pub is_within : ℕ → ℕ → ℕ → Bool
is_within pages address len = nat_le (address + len) (pages * PAGE_SIZE)

-- ---- answers

-- a number of one width as one of another
abbrev pub extended : Extension → Width → Width → ℕ → ℕ
extended Signed from to n = cast_unsigned to (cast_signed from n)
extended Unsigned from to n = n

-- what a load answers, by the number that stands in memory
abbrev pub loaded : Load → ℕ → Value
loaded (load.Whole t) n = value_of t n
loaded (load.Narrow k e) n = value_of (narrow_type k) (extended e (narrow_width k) (type_width (narrow_type k)) n)

-- what a read-modify-write stores, by the number that stands in memory and the operand
abbrev pub modified : RmwOp → ℕ → ℕ → ℕ
modified Add n operand = (n + operand) % 2 ^ 64
modified Subtract n operand = (n + (2 ^ 64 - operand)) % 2 ^ 64
modified And n operand = bit_and n operand
modified Or n operand = bit_or n operand
modified Xor n operand = bit_xor n operand
modified Exchange n operand = operand

-- what a compare-exchange stores, if it stores: the whole expected operand is compared
abbrev pub exchanged : ℕ → ℕ → ℕ → Option ℕ
exchanged expected replacement n = cond (n == expected) (Some replacement) None
