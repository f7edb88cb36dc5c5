-- One event on a shared memory with its versions: when it can be made, and what it leaves.
use Rattle.std.specs.Prelude.{◌≡◌, true, List, length}
use Rattle.wasm_types.specs.declared.operation.Op.{Op}
use Rattle.rw_objects.specs.Space.{Fits, RisesFrom, AllBelow, is_ready, values_after}
use Rattle.rw_objects.specs.declared.count.Count.{Count}
use Rattle.rw_objects.specs.Counts.{CanCountAll, count_at, counts_after}
use Rattle.block_objects.specs.Objects.{QueueAt}
use Rattle.block_objects.specs.Memory.{MemoryAt}
use Rattle.block_objects.specs.SharedMemory.{shared_memory}
use Rattle.block_objects.specs.Touches.{op_touches}
use Rattle.waiter_queues.specs.Shared.{shared_values}

-- the operation fits and is ready, and each of its touches, which rise, can be counted
abbrev pub CanAct : MemoryAt → List QueueAt → List Count → Op → Type 0
CanAct m queues counts op = record {
  fits : Fits shared_memory m.limits op;
  ready : is_ready shared_memory m.limits (shared_values m queues) op ≡ true;
  rising : RisesFrom 0 (op_touches op);
  below : AllBelow (length counts) (op_touches op);
  room : CanCountAll (op_touches op) counts;
}

-- the operation was made, and its touches were counted
abbrev pub Acts : MemoryAt → List QueueAt → List Count → Op → MemoryAt → List QueueAt → List Count → Type 0
Acts m queues before op n left after = record {
  values : shared_values n left ≡ values_after shared_memory m.limits (shared_values m queues) op;
  limits : n.limits ≡ m.limits;
  counts : count_at after ≡ counts_after (op_touches op) (count_at before);
  len : length after ≡ length before;
}
