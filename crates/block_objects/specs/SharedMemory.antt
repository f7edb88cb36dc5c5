-- A shared memory with its waiter queues as a space of objects.
use Rattle.std.specs.Prelude.{◌≡◌, ℕ, ◌*◌, List, take}
use Rattle.rw_objects.specs.Space.{Space}
use Rattle.wasm_types.specs.declared.sizes.TheConstants.{PAGE_SIZE}
use Rattle.wasm_types.specs.declared.operation.Op.{Op}
use Rattle.wasm_types.specs.declared.operation.Reply.{Reply}
use Rattle.block_objects.specs.declared.limits.MemoryLimits.{MemoryLimits}
use Rattle.block_objects.specs.Objects.{ObjectAt, blocks_in, objects_in, value_pages, bytes_of_blocks}
use Rattle.block_objects.specs.Touches.{op_touches, op_kind}
use Rattle.block_objects.specs.Effects.{action_effect}

-- an operation carries the memory's initial length and block size
abbrev pub Carries : MemoryLimits → Op → Type 0
Carries limits op = (op.extent.initial ≡ limits.initial) × (op.extent.block ≡ limits.block)

-- the bytes at the present length
abbrev pub image_of : MemoryLimits → (ℕ → ObjectAt) → List ℕ
image_of limits values = take (value_pages (values 0) * PAGE_SIZE) (bytes_of_blocks (blocks_in limits.block limits.capacity) values)

abbrev pub shared_memory : Space Op Reply ObjectAt MemoryLimits
shared_memory = record {
  objects = λ limits. objects_in limits.block limits.capacity;
  kind = op_kind;
  touches = op_touches;
  carries = Carries;
  effect = λ limits op. action_effect limits.capacity op.extent op.action;
  image = image_of;
}
