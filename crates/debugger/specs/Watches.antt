-- Numbers in memory that are watched.
use Rattle.std.specs.Prelude.{ℕ, ◌==◌, Bool, not, Option, Some, None, if◌then◌else◌}
use Rattle.std.specs.Option.{unwrap_or}
use Rattle.wasm_types.specs.Widths.{width_of}
use Rattle.wasm_world.specs.SharedMemory.{shared_memory}
use Rattle.wasm_world.specs.Opening.{WasmWorld}
use Rattle.debug_views.specs.Trace.{number_if}
use Rattle.debug_views.specs.Values.{memory_bytes}
use Rattle.debugger.specs.declared.watching.WatchedNumber.{WatchedNumber}
use Rattle.debugger.specs.declared.watching.Seen.{Seen}

-- the number in memory, little-endian; 0 where the memory ends before
abbrev pub number_now : WasmWorld → WatchedNumber → ℕ
number_now w k = unwrap_or (number_if (width_of k.width) k.address (memory_bytes shared_memory w)) 0

-- the number changes; or it becomes or ceases to be the one that is asked for
abbrev pub is_change : Option ℕ → (old new : ℕ) → Bool
is_change None old new = not (old == new)
is_change (Some one) old new = if old == one then not (new == one) else new == one

-- a number that is watched, as it is in a world; whether it is otherwise in another
abbrev pub seen_now : WasmWorld → WatchedNumber → Seen
seen_now w k = record { watched = k; number = number_now w k }

abbrev pub is_changed : WasmWorld → Seen → Bool
is_changed w k = is_change k.watched.value k.number (number_now w k.watched)
