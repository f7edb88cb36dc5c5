-- The code's widths as std's.
use Rattle.std.specs.Int.{Width as Bits, w8, w16, w32, w64}
use Rattle.wasm_types.specs.declared.width.Width.{Width}
use Rattle.wasm_types.specs.declared.width.Width.TheVariants.{One, Two, Four, Eight}

abbrev pub width_of : Width → Bits
width_of One = w8
width_of Two = w16
width_of Four = w32
width_of Eight = w64
