-- Exponents and bytes of widths.
use Rattle.std.proofs.Common.{◌≡◌, ◌^◌, refl}
use Rattle.std.specs.Int.{Width, w8, w16, w32, w64, w128, byte_len}
use Rattle.wasm_types.specs.Accesses.{exponent_of}

-- a width has two to its exponent bytes
pub power_bytes : (w : Width) → 2 ^ exponent_of w ≡ byte_len w
power_bytes w8 = refl
power_bytes w16 = refl
power_bytes w32 = refl
power_bytes w64 = refl
power_bytes w128 = refl
