-- Actions within a memory. WebAssembly Core 1.0, memory instructions: an access is in bounds where it ends within the
-- memory.
use Rattle.std.specs.Prelude.{◌≡◌, ℕ, ◌+◌, ◌*◌, ◌≤◌, ◌<◌}
use Rattle.std.specs.Int.{byte_len}
use Rattle.wasm_types.specs.declared.sizes.TheConstants.{PAGE_SIZE}
use Rattle.wasm_types.specs.declared.operation.Action.{Action}
use Rattle.wasm_types.specs.declared.operation.Action.TheVariants as action
use Rattle.wasm_types.specs.declared.operation.Op.{Op}
use Rattle.rw_objects.specs.Space.{Fits}
use Rattle.block_objects.specs.declared.limits.MemoryLimits.{MemoryLimits}
use Rattle.wasm_types.specs.Accesses.{access_width, load_width, type_width}
use Rattle.block_objects.specs.SharedMemory.{Carries, shared_memory}

-- an action ends within so many bytes of memory
abbrev pub InBounds : ℕ → Action → Type 0
InBounds bytes (action.Load load address) = address + byte_len (load_width load) ≤ bytes
InBounds bytes (action.Store access address operand) = address + byte_len (access_width access) ≤ bytes
InBounds bytes (action.Rmw op access address operand) = address + byte_len (access_width access) ≤ bytes
InBounds bytes (action.CompareExchange access address expected replacement) = address + byte_len (access_width access) ≤ bytes
InBounds bytes action.Size = Unit {0}
InBounds bytes (action.Grow pages) = Unit {0}
InBounds bytes (action.Wait t thread address expected) = address + byte_len (type_width t) ≤ bytes
InBounds bytes (action.Notify address count) = address + 4 ≤ bytes
InBounds bytes (action.Resume thread address) = address < bytes
InBounds bytes (action.TimeOut thread address) = address < bytes

-- blocks divide a page, and an operation that carries the memory's numbers ends within its capacity
pub record IsWithin (limits : MemoryLimits) (op : Op) : Type 0 where
  pub power : limits.block ≤ 16
  pub carries : Carries limits op
  pub ends : InBounds (limits.capacity * PAGE_SIZE) op.action

-- such an operation fits the memory
abbrev pub OpsWithinFit : Type 0
OpsWithinFit = (limits : MemoryLimits) (op : Op) → IsWithin limits op → Fits shared_memory limits op
