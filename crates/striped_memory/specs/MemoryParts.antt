-- The eight parts of a shared memory: part 1 + 2 r holds the blocks 4 j + r, part 2 + 2 r the queues of those blocks
-- for r below 3, and part 0 the length and, behind it, the queues of the blocks 4 j + 3. Object 8 j + i is item j of
-- part i.
use Rattle.std.specs.Prelude.{ℕ, ◌+◌, ◌-◌, ◌*◌, cond, ◌==◌, List}
use Rattle.block_objects.specs.declared.limits.MemoryLimits.{MemoryLimits}
use Rattle.block_objects.specs.Objects.{ObjectAt, Length, Bytes, Queue, QueueAt, block_bytes}
use Rattle.waiter_queues.specs.Shared.{queue_at}
use Rattle.striped_memory.specs.declared.part.MemoryPart.{MemoryPart}
use Rattle.striped_memory.specs.declared.part.MemoryPart.TheVariants.{Blocks, Queues, Length as LengthPart}

-- which of the parts it is
abbrev pub memory_lane : MemoryPart → ℕ
memory_lane (Blocks b) = 1 + 2 * b.row
memory_lane (Queues q) = 2 + 2 * q.row
memory_lane (LengthPart pages q) = 0

-- the numbers of the memory
abbrev pub memory_fixed : MemoryPart → MemoryLimits
memory_fixed (Blocks b) = b.limits
memory_fixed (Queues q) = q.limits
memory_fixed (LengthPart pages q) = q.limits

-- its items
abbrev pub blocks_held : ℕ → List ℕ → ℕ → ObjectAt
blocks_held power bytes j = Bytes (block_bytes power bytes j)

abbrev pub queues_held : List QueueAt → ℕ → ObjectAt
queues_held queues j = Queue (queue_at queues j)

abbrev pub length_held : ℕ → List QueueAt → ℕ → ObjectAt
length_held pages queues j = cond (j == 0) (Length pages) (Queue (queue_at queues (j - 1)))

abbrev pub memory_held : MemoryPart → ℕ → ObjectAt
memory_held (Blocks b) = blocks_held b.limits.block b.bytes.items
memory_held (Queues q) = queues_held q.queues
memory_held (LengthPart pages q) = length_held pages q.queues
