-- The range of a value. WebAssembly Core 1.0, number types.
use Rattle.std.specs.Prelude.{ℕ, ◌<◌, ◌^◌}
use Rattle.wasm_types.specs.declared.value.Value.{Value}
use Rattle.wasm_types.specs.declared.value.Value.TheVariants.{I32, I64}

-- an i32 has 32 bits
abbrev pub IsInRange : Value → Type 0
IsInRange (I32 bits) = bits < 2 ^ 32
IsInRange (I64 bits) = Unit {0}
