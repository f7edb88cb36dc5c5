-- Parts are those of a memory.
use Rattle.std.proofs.Common.{◌≡◌, ℕ, zero, suc, ◌+◌, ◌-◌, ◌*◌, ◌≤◌, List, refl, sym, ap, subst, ◌∙◌, arith, Box, box_value}
use Rattle.std.proofs.Math.Path.{fun_ext}
use Rattle.block_objects.specs.declared.limits.MemoryLimits.{MemoryLimits}
use Rattle.block_objects.specs.Objects.{ObjectAt, QueueAt, Bytes, Queue, Length, block_bytes, block_object, queue_object, object_value}
use Rattle.block_objects.specs.Memory.{MemoryAt}
use Rattle.block_objects.proofs.Values.{differ_no, value_block, value_queue}
use Rattle.shared_parts.specs.Parts.{IsPart, AreParts}
use Rattle.shared_parts.specs.declared.eight.Eight.{Eight}
use Rattle.shared_parts.specs.Cut.{AllSound}
use Rattle.memory_parts.specs.SharedCut.{shared_cut}
use Rattle.waiter_queues.specs.Shared.{queue_at, shared_values}
use Rattle.striped_memory.specs.declared.part.BlockPart.{BlockPart}
use Rattle.striped_memory.specs.declared.part.QueuePart.{QueuePart}
use Rattle.striped_memory.specs.declared.part.MemoryPart.{MemoryPart}
use Rattle.striped_memory.specs.declared.part.MemoryPart.TheVariants.{Blocks, Queues, Length as LengthPart}
use Rattle.striped_memory.specs.Quarters.{dealt}
use Rattle.striped_memory.proofs.Deals.{dealt_first, dealt_second, dealt_third, dealt_fourth}
use Rattle.striped_memory.specs.MemoryParts.{memory_lane, memory_fixed, memory_held, length_held}

module _ (m : MemoryAt) (queues : List QueueAt) where
  pub blocks_are_part : (part : MemoryPart) (b : BlockPart) (row : ℕ) → part ≡ Blocks b → b.row ≡ row → b.limits ≡ m.limits → ((j : ℕ) → block_bytes m.limits.block b.bytes.items j ≡ block_bytes m.limits.block m.bytes (4 * j + row))
      → IsPart memory_lane memory_fixed memory_held (1 + 2 * row) m.limits (shared_values m queues) part
  blocks_are_part part b row is at limits there = record {
    is_lane = ap memory_lane is ∙ ap (λ r. 1 + 2 * r) at;
    is_fixed = ap memory_fixed is ∙ limits;
    is_held = ap memory_held is ∙ fun_ext one;
  } where
    one : (j : ℕ) → Bytes (block_bytes b.limits.block b.bytes.items j) ≡ shared_values m queues (8 * j + (1 + 2 * row))
    one j =
        let place : block_object (4 * j + row) ≡ 8 * j + (1 + 2 * row) = omega arith in
        ap (λ (l : MemoryLimits). Bytes (block_bytes l.block b.bytes.items j)) limits ∙ ap Bytes (there j)
        ∙ sym (value_block m.limits.block m.pages m.bytes (queue_at queues) (4 * j + row)) ∙ ap (shared_values m queues) place

  pub queues_are_part : (part : MemoryPart) (q : QueuePart) (row : ℕ) → part ≡ Queues q → q.row ≡ row → q.limits ≡ m.limits → ((j : ℕ) → queue_at q.queues j ≡ queue_at queues (4 * j + row))
      → IsPart memory_lane memory_fixed memory_held (2 + 2 * row) m.limits (shared_values m queues) part
  queues_are_part part q row is at limits there = record {
    is_lane = ap memory_lane is ∙ ap (λ r. 2 + 2 * r) at;
    is_fixed = ap memory_fixed is ∙ limits;
    is_held = ap memory_held is ∙ fun_ext one;
  } where
    one : (j : ℕ) → Queue (queue_at q.queues j) ≡ shared_values m queues (8 * j + (2 + 2 * row))
    one j =
        let place : queue_object (4 * j + row) ≡ 8 * j + (2 + 2 * row) = omega arith in
        ap Queue (there j) ∙ sym (value_queue m.limits.block m.pages m.bytes (queue_at queues) (4 * j + row)) ∙ ap (shared_values m queues) place

  pub length_is_part : (part : MemoryPart) (pages : ℕ) (q : QueuePart) → part ≡ LengthPart pages q → pages ≡ m.pages → q.limits ≡ m.limits → ((j : ℕ) → queue_at q.queues j ≡ queue_at queues (4 * j + 3))
      → IsPart memory_lane memory_fixed memory_held 0 m.limits (shared_values m queues) part
  length_is_part part pages q is long limits there = record {
    is_lane = ap memory_lane is;
    is_fixed = ap memory_fixed is ∙ limits;
    is_held = ap memory_held is ∙ fun_ext one;
  } where
    one : (j : ℕ) → length_held pages q.queues j ≡ shared_values m queues (8 * j + 0)
    one zero = ap Length long
    one (suc k) =
        let place : queue_object (4 * k + 3) ≡ 8 * suc k + 0 = omega arith in
        let own : suc k - 1 ≡ k = omega arith in
        let behind : length_held pages q.queues (suc k) ≡ Queue (queue_at q.queues (suc k - 1)) = rw (differ_no (suc k) 0 (λ e. absurd (omega (arith, e)))) refl in
        behind ∙ ap (λ i. Queue (queue_at q.queues i)) own ∙ ap Queue (there k)
        ∙ sym (value_queue m.limits.block m.pages m.bytes (queue_at queues) (4 * k + 3)) ∙ ap (shared_values m queues) place

-- the length is within the limits, where the objects have values that they can have
module _ (fixed : MemoryLimits) (values : ℕ → ObjectAt) (sound : AllSound shared_cut fixed values) (part : MemoryPart) (are : IsPart memory_lane memory_fixed memory_held 0 fixed values part) (pages : ℕ) (q : QueuePart) (is : part ≡ LengthPart pages q) where
  fixed_is : q.limits ≡ fixed
  fixed_is = ap memory_fixed (sym is) ∙ are.is_fixed

  at_zero : values 0 ≡ Length pages
  at_zero = ap (λ f. f 0) (sym are.is_held) ∙ ap (λ p. memory_held p 0) is

  pub in_limit : q.limits.capacity ≤ 65536
  in_limit = subst (λ (l : MemoryLimits). l.capacity ≤ 65536) (sym fixed_is) (sound 0).in_limit

  pub from_initial : q.limits.initial ≤ pages
  from_initial = subst (λ (l : MemoryLimits). l.initial ≤ pages) (sym fixed_is) ((sound 0).from_initial pages refl at_zero)

  pub to_capacity : pages ≤ q.limits.capacity
  to_capacity = subst (λ (l : MemoryLimits). pages ≤ l.capacity) (sym fixed_is) ((sound 0).to_capacity pages refl at_zero)

blocks_row : (part : MemoryPart) (b : BlockPart) (row : ℕ) → memory_lane part ≡ 1 + 2 * row → part ≡ Blocks b → b.row ≡ row
blocks_row part b row lane is = let e : 1 + 2 * b.row ≡ 1 + 2 * row = ap memory_lane (sym is) ∙ lane in omega (arith, e)

queues_row : (part : MemoryPart) (q : QueuePart) (row : ℕ) → memory_lane part ≡ 2 + 2 * row → part ≡ Queues q → q.row ≡ row
queues_row part q row lane is = let e : 2 + 2 * q.row ≡ 2 + 2 * row = ap memory_lane (sym is) ∙ lane in omega (arith, e)

-- parts whose blocks and queues are put together are those of the memory that has them
module _ {A : Type 0} (fixed : MemoryLimits) (values : ℕ → ObjectAt) (parts : Eight (Box MemoryPart A)) (are : AreParts memory_lane memory_fixed memory_held fixed values parts) (pages : ℕ) (a b c d : BlockPart) (e f g h : QueuePart)
    (zero : box_value parts.zero ≡ LengthPart pages h) (one : box_value parts.one ≡ Blocks a) (two : box_value parts.two ≡ Queues e) (three : box_value parts.three ≡ Blocks b)
    (four : box_value parts.four ≡ Queues f) (five : box_value parts.five ≡ Blocks c) (six : box_value parts.six ≡ Queues g) (seven : box_value parts.seven ≡ Blocks d)
    (bytes : List ℕ) (queues : List QueueAt)
    (blocks_there : (i : ℕ) → block_bytes h.limits.block bytes i ≡ dealt (block_bytes h.limits.block a.bytes.items) (block_bytes h.limits.block b.bytes.items) (block_bytes h.limits.block c.bytes.items) (block_bytes h.limits.block d.bytes.items) i)
    (queues_there : (i : ℕ) → queue_at queues i ≡ dealt (queue_at e.queues) (queue_at f.queues) (queue_at g.queues) (queue_at h.queues) i) where
  own : h.limits ≡ fixed
  own = ap memory_fixed (sym zero) ∙ are.zero.is_fixed

  block_limits : (part : MemoryPart) (x : BlockPart) → memory_fixed part ≡ fixed → part ≡ Blocks x → x.limits ≡ h.limits
  block_limits part x is at = ap memory_fixed (sym at) ∙ is ∙ sym own

  queue_limits : (part : MemoryPart) (x : QueuePart) → memory_fixed part ≡ fixed → part ≡ Queues x → x.limits ≡ h.limits
  queue_limits part x is at = ap memory_fixed (sym at) ∙ is ∙ sym own

  first : (j : ℕ) → 4 * j + 0 ≡ 4 * j
  first j = omega arith

  pub united : AreParts memory_lane memory_fixed memory_held h.limits (shared_values (record { limits = h.limits; pages = pages; bytes = bytes }) queues) parts
  united =
      let mem : MemoryAt = record { limits = h.limits; pages = pages; bytes = bytes } in
      let p = h.limits.block in
      let wa = block_bytes p a.bytes.items in
      let wb = block_bytes p b.bytes.items in
      let wc = block_bytes p c.bytes.items in
      let wd = block_bytes p d.bytes.items in
      let qe = queue_at e.queues in
      let qf = queue_at f.queues in
      let qg = queue_at g.queues in
      let qh = queue_at h.queues in
      record {
        zero = length_is_part mem queues (box_value parts.zero) pages h zero refl refl (λ j. sym (queues_there (4 * j + 3) ∙ dealt_fourth qe qf qg qh j));
        one = blocks_are_part mem queues (box_value parts.one) a 0 one (blocks_row (box_value parts.one) a 0 are.one.is_lane one) (block_limits (box_value parts.one) a are.one.is_fixed one) (λ j. sym (blocks_there (4 * j + 0) ∙ ap (dealt wa wb wc wd) (first j) ∙ dealt_first wa wb wc wd j));
        two = queues_are_part mem queues (box_value parts.two) e 0 two (queues_row (box_value parts.two) e 0 are.two.is_lane two) (queue_limits (box_value parts.two) e are.two.is_fixed two) (λ j. sym (queues_there (4 * j + 0) ∙ ap (dealt qe qf qg qh) (first j) ∙ dealt_first qe qf qg qh j));
        three = blocks_are_part mem queues (box_value parts.three) b 1 three (blocks_row (box_value parts.three) b 1 are.three.is_lane three) (block_limits (box_value parts.three) b are.three.is_fixed three) (λ j. sym (blocks_there (4 * j + 1) ∙ dealt_second wa wb wc wd j));
        four = queues_are_part mem queues (box_value parts.four) f 1 four (queues_row (box_value parts.four) f 1 are.four.is_lane four) (queue_limits (box_value parts.four) f are.four.is_fixed four) (λ j. sym (queues_there (4 * j + 1) ∙ dealt_second qe qf qg qh j));
        five = blocks_are_part mem queues (box_value parts.five) c 2 five (blocks_row (box_value parts.five) c 2 are.five.is_lane five) (block_limits (box_value parts.five) c are.five.is_fixed five) (λ j. sym (blocks_there (4 * j + 2) ∙ dealt_third wa wb wc wd j));
        six = queues_are_part mem queues (box_value parts.six) g 2 six (queues_row (box_value parts.six) g 2 are.six.is_lane six) (queue_limits (box_value parts.six) g are.six.is_fixed six) (λ j. sym (queues_there (4 * j + 2) ∙ dealt_third qe qf qg qh j));
        seven = blocks_are_part mem queues (box_value parts.seven) d 3 seven (blocks_row (box_value parts.seven) d 3 are.seven.is_lane seven) (block_limits (box_value parts.seven) d are.seven.is_fixed seven) (λ j. sym (blocks_there (4 * j + 3) ∙ dealt_fourth wa wb wc wd j));
      }
