-- A shared memory and its waiter queues, as the values of its objects.
use Rattle.std.specs.Prelude.{ℕ, List, slice_index_or}
use Rattle.wasm_types.specs.declared.modules.Data.{Data}
use Rattle.block_objects.specs.declared.limits.MemoryLimits.{MemoryLimits}
use Rattle.block_objects.specs.Objects.{ObjectAt, QueueAt, object_value}
use Rattle.block_objects.specs.Queues.{no_waiters}
use Rattle.block_objects.specs.Memory.{MemoryAt, opening_memory}

-- the queue of a block
abbrev pub queue_at : List QueueAt → ℕ → QueueAt
queue_at queues b = slice_index_or queues b no_waiters

-- the value of each object of a memory with these queues
abbrev pub shared_values : MemoryAt → List QueueAt → ℕ → ObjectAt
shared_values m queues = object_value m.limits.block m.pages m.bytes (queue_at queues)

-- the values with which a memory opens: the segments are written, and nobody waits
abbrev pub opening_values : MemoryLimits → List Data → ℕ → ObjectAt
opening_values limits segments = object_value limits.block limits.initial (opening_memory limits segments).bytes (λ b. no_waiters)
