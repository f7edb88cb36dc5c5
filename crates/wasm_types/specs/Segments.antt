-- Where the segments of a module go. WebAssembly Core 1.0, execution, instantiation.
use Rattle.std.specs.Prelude.{ℕ, ◌+◌, ◌&&◌, Bool, length, nat_le, slice_get}
use Rattle.std.specs.List.{list_all}
use Rattle.wasm_types.specs.declared.value.Value.{Value}
use Rattle.wasm_types.specs.declared.modules.Module.{Module}
use Rattle.wasm_types.specs.Values.{bits_of}
use Rattle.wasm_types.specs.Memories.{first_memory, bytes_by}
use Rattle.wasm_types.specs.Tables.{elements_by}

-- so many items from an offset on, which is read as unsigned, are within a size
abbrev pub is_within : ℕ → Value → ℕ → Bool
is_within size offset count = nat_le (bits_of offset + count) size

abbrev pub data_is_within : Module → Bool
data_is_within m = list_all (λ d. is_within (bytes_by (first_memory m)) d.offset (length d.bytes)) m.«data»

abbrev pub elements_are_within : Module → Bool
elements_are_within m = list_all (λ e. is_within (elements_by (slice_get m.tables 0)) e.offset (length e.functions)) m.elements

-- each segment is within the memory or the table as it opens
abbrev pub segments_fit : Module → Bool
segments_fit m = data_is_within m && elements_are_within m
