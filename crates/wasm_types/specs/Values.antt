-- Types and bits of values. WebAssembly Core 1.0, values.
use Rattle.std.specs.Prelude.{ℕ, Bool, true, false}
use Rattle.wasm_types.specs.declared.value.ValType.{ValType}
use Rattle.wasm_types.specs.declared.value.ValType.TheVariants as type
use Rattle.wasm_types.specs.declared.value.Value.{Value}
use Rattle.wasm_types.specs.declared.value.Value.TheVariants.{I32, I64}

abbrev pub type_of : Value → ValType
type_of (I32 bits) = type.I32
type_of (I64 bits) = type.I64

abbrev pub bits_of : Value → ℕ
bits_of (I32 bits) = bits
bits_of (I64 bits) = bits

-- the value of a type with these bits
abbrev pub value_of : ValType → ℕ → Value
value_of type.I32 bits = I32 bits
value_of type.I64 bits = I64 bits

abbrev pub same_type : ValType → ValType → Bool
same_type type.I32 type.I32 = true
same_type type.I32 type.I64 = false
same_type type.I64 type.I32 = false
same_type type.I64 type.I64 = true
