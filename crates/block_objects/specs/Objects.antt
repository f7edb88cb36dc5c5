-- The objects of a shared memory and their values: object 0 is the memory's length in pages, object 1 + 2b is block b,
-- and object 2 + 2b is the waiter queue of block b. Which parts of a memory are objects is this project's own choice;
-- what they hold is of WebAssembly Core 1.0, memory instances, and of the threads proposal, wait and notify.
use Rattle.std.specs.Prelude.{ℕ, zero, suc, ◌+◌, ◌-◌, ◌*◌, ◌/◌, ◌%◌, ◌^◌, cond, ◌==◌, List, [], ◌++◌, take, drop}
use Rattle.wasm_types.specs.declared.sizes.TheConstants.{PAGE_SIZE}
use Rattle.block_objects.specs.declared.waiter.Waiter.{Waiter}

-- a waiter queue: who waits, in order of arrival, and which threads were woken and have not gone on
pub record QueueAt : Type 0 where
  pub waiting : List Waiter
  pub woken : List ℕ

-- the value of an object: a length in pages, a block's bytes, or a waiter queue
pub data ObjectAt : Type 0 where
  Length : ℕ → ObjectAt
  Bytes : List ℕ → ObjectAt
  Queue : QueueAt → ObjectAt

-- the block of an address, where blocks have 2 ^ power bytes
abbrev pub block_of : ℕ → ℕ → ℕ
block_of power address = address / 2 ^ power

abbrev pub block_object : ℕ → ℕ
block_object b = 1 + 2 * b

abbrev pub queue_object : ℕ → ℕ
queue_object b = 2 + 2 * b

-- how many blocks so many pages have, and how many objects
abbrev pub blocks_in : ℕ → ℕ → ℕ
blocks_in power pages = pages * PAGE_SIZE / 2 ^ power

abbrev pub objects_in : ℕ → ℕ → ℕ
objects_in power pages = 1 + 2 * blocks_in power pages

-- the bytes of a block
abbrev pub block_bytes : ℕ → List ℕ → ℕ → List ℕ
block_bytes power bytes b = take (2 ^ power) (drop (b * 2 ^ power) bytes)

-- the value of each object of a memory that has this length, these bytes and these queues
abbrev pub object_value : ℕ → ℕ → List ℕ → (ℕ → QueueAt) → ℕ → ObjectAt
object_value power pages bytes queues o =
    cond (o == 0) (Length pages)
    (cond ((o - 1) % 2 == 0) (Bytes (block_bytes power bytes ((o - 1) / 2))) (Queue (queues ((o - 1) / 2))))

-- the bytes that a value holds
abbrev pub value_bytes : ObjectAt → List ℕ
value_bytes (Bytes bytes) = bytes
value_bytes (Length pages) = []
value_bytes (Queue queue) = []

abbrev pub value_pages : ObjectAt → ℕ
value_pages (Length pages) = pages
value_pages (Bytes bytes) = 0
value_pages (Queue queue) = 0

-- the bytes of the first n blocks, one after another
abbrev pub bytes_of_blocks : ℕ → (ℕ → ObjectAt) → List ℕ
bytes_of_blocks zero values = []
bytes_of_blocks (suc n) values = bytes_of_blocks n values ++ value_bytes (values (block_object n))
