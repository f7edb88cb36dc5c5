-- Items of parts that an operation touches.
use Rattle.std.proofs.Common.{◌≡◌, ◌≢◌, ℕ, ◌+◌, ◌-◌, ◌*◌, ◌/◌, ◌%◌, ◌<◌, ◌≤◌, Bool, true, false, cond, ◌==◌, List, length, refl, sym, ap, subst, ◌∙◌, arith}
use Rattle.rw_objects.specs.Space.{Fits, AllBelow}
use Rattle.wasm_types.specs.declared.operation.Op.{Op}
use Rattle.block_objects.specs.Objects.{ObjectAt, Length, Queue, QueueAt}
use Rattle.block_objects.specs.Touches.{op_touches}
use Rattle.block_objects.specs.SharedMemory.{shared_memory}
use Rattle.block_objects.proofs.Values.{differ_no, no_differ}
use Rattle.waiter_queues.specs.Shared.{queue_at}
use Rattle.shared_parts.specs.Parts.{set_at}
use Rattle.striped_memory.specs.declared.part.BlockPart.{BlockPart}
use Rattle.striped_memory.specs.declared.part.QueuePart.{QueuePart}
use Rattle.striped_memory.specs.declared.part.MemoryPart.{MemoryPart}
use Rattle.striped_memory.specs.declared.part.MemoryPart.TheVariants.{Blocks, Queues, Length as LengthPart}
use Rattle.striped_memory.specs.Quarters.{quarter_of}
use Rattle.striped_memory.specs.MemoryParts.{memory_lane, memory_fixed, length_held}
use Rattle.striped_memory.proofs.Ranges.{block_item, queue_item, last_queue_item, set_is}

module _ (part : MemoryPart) (op : Op) (o : ℕ) (fits : Fits shared_memory (memory_fixed part) op) (high : op.extent.block ≤ 12) (lane : memory_lane part ≡ o % 8) (found : (n : ℕ) → AllBelow n (op_touches op) → o < n) where
  fits_as : (p : MemoryPart) → part ≡ p → Fits shared_memory (memory_fixed p) op
  fits_as p is = subst (λ x. Fits shared_memory (memory_fixed x) op) is fits

  lane_as : (p : MemoryPart) → part ≡ p → memory_lane p ≡ o % 8
  lane_as p is = subst (λ x. memory_lane x ≡ o % 8) is lane

  high_as : (p : MemoryPart) → part ≡ p → (memory_fixed p).block ≤ 12
  high_as p is = subst (λ x. x ≤ 12) (fits_as p is).carries.1 high

  pub block_here : (b : BlockPart) → part ≡ Blocks b → o / 8 < quarter_of b.limits.block b.limits.capacity
  block_here b is = block_item b.limits.block b.limits.capacity o (high_as (Blocks b) is) (found _ (fits_as (Blocks b) is).below) b.row (lane_as (Blocks b) is)

  pub queue_here : (q : QueuePart) → part ≡ Queues q → o / 8 < length q.queues
  queue_here q is = subst (λ n. o / 8 < n) (sym q.sized) (queue_item q.limits.block q.limits.capacity o (high_as (Queues q) is) (found _ (fits_as (Queues q) is).below) q.row (lane_as (Queues q) is))

  pub last_here : (pages : ℕ) (q : QueuePart) → part ≡ LengthPart pages q → o / 8 ≢ 0 → o / 8 - 1 < length q.queues
  last_here pages q is some =
      let p = LengthPart pages q in
      subst (λ n. o / 8 - 1 < n) (sym q.sized) (last_queue_item q.limits.block q.limits.capacity o (high_as p is) (found _ (fits_as p is).below) (lane_as p is) some)

-- a queue behind the length changes
module _ (pages : ℕ) (old new : List QueueAt) (k : ℕ) (some : k ≢ 0) (others : (j : ℕ) → j ≢ k - 1 → queue_at new j ≡ queue_at old j) where
  other : (j : ℕ) → j ≢ k → (b : Bool) → (j == 0) ≡ b → cond b (Length pages) (Queue (queue_at new (j - 1))) ≡ cond b (Length pages) (Queue (queue_at old (j - 1)))
  other j ne true is = refl
  other j ne false is = let n : j ≢ 0 = no_differ j 0 is in ap Queue (others (j - 1) (λ e. absurd (omega (arith, e, ne, n, some))))

  pub length_set : (change : ObjectAt → ObjectAt) → change (Queue (queue_at old (k - 1))) ≡ Queue (queue_at new (k - 1)) → length_held pages new ≡ set_at (length_held pages old) k (change (length_held pages old k))
  length_set change here =
      set_is (length_held pages old) (length_held pages new) k (change (length_held pages old k))
      (rw (differ_no k 0 some) (sym here)) (λ j ne. other j ne (j == 0) refl)
