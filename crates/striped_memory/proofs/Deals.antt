-- Blocks and queues that are dealt out, and put together again.
use Rattle.std.proofs.Common.{◌≡◌, ℕ, zero, suc, ◌+◌, ◌-◌, ◌*◌, ◌/◌, ◌%◌, ◌^◌, ◌<◌, ◌≤◌, inl, inr, Bool, true, false, cond, ◌==◌, List, [], ◌++◌, length, get_or, take, drop, refl, sym, ap, subst, ◌∙◌, arith}
use Rattle.std.proofs.lemmas.List.{same_lists, places, length-append, get_or_past}
use Rattle.std.proofs.lemmas.Bool.{cases_lt}
use Rattle.std.proofs.Math.ListN.{drop_of_length-le}
use Rattle.std.proofs.Math.Nat.{mul-le-mul_right}
use Rattle.block_objects.specs.declared.limits.MemoryLimits.{MemoryLimits}
use Rattle.block_objects.specs.Objects.{QueueAt, block_bytes, blocks_in}
use Rattle.block_objects.specs.Memory.{MemoryAt, IsSound}
use Rattle.block_objects.proofs.Windows.{length-window}
use Rattle.block_objects.specs.Queues.{no_waiters}
use Rattle.block_objects.proofs.Values.{equal_yes, differ_no}
use Rattle.waiter_queues.specs.Shared.{queue_at}
use Rattle.striped_memory.specs.Quarters.{quarter_of, dealt}
use Rattle.striped_memory.proofs.Ranges.{four_quarters, quarters_fill}

window_left : (n at : ℕ) (xs b : List ℕ) → at + n ≤ length xs → take n (drop at (xs ++ b)) ≡ take n (drop at xs)
window_left n at xs b within = same_lists _ _ (grind (arith, places)) pointwise where
  pointwise : (i d : ℕ) → i < length (take n (drop at (xs ++ b))) → get_or (take n (drop at (xs ++ b))) i d ≡ get_or (take n (drop at xs)) i d
  pointwise i d h = grind (arith, places)

window_end : (n at : ℕ) (xs b : List ℕ) → at ≡ length xs → n ≡ length b → take n (drop at (xs ++ b)) ≡ b
window_end n at xs b is size = same_lists _ _ (grind (arith, places)) pointwise where
  pointwise : (i d : ℕ) → i < length (take n (drop at (xs ++ b))) → get_or (take n (drop at (xs ++ b))) i d ≡ get_or b i d
  pointwise i d h = grind (arith, places)

take_none : (n : ℕ) → take {A = ℕ} n [] ≡ []
take_none zero = refl
take_none (suc n) = refl

-- behind its blocks a list has none
pub block_past : (p n k : ℕ) (xs : List ℕ) → length xs ≡ n * 2 ^ p → n ≤ k → block_bytes p xs k ≡ []
block_past p n k xs len past =
    let up : n * 2 ^ p ≤ k * 2 ^ p = mul-le-mul_right (2 ^ p) past in
    ap (take (2 ^ p)) (drop_of_length-le xs (omega (arith, up, len))) ∙ take_none (2 ^ p)

-- a block more
module _ (p m : ℕ) (xs b : List ℕ) (f : ℕ → List ℕ) (len : length xs ≡ m * 2 ^ p) (size : length b ≡ 2 ^ p) (is : b ≡ f m) (before : (k : ℕ) → k < m → block_bytes p xs k ≡ f k) where
  pub more_length : length (xs ++ b) ≡ (m + 1) * 2 ^ p
  more_length = let sum = length-append xs b in omega (arith, sum, len, size)

  at_end : (k : ℕ) → k ≡ m → block_bytes p (xs ++ b) k ≡ f k
  at_end k at = let place : k * 2 ^ p ≡ length xs = ap (λ i. i * 2 ^ p) at ∙ sym len in window_end (2 ^ p) (k * 2 ^ p) xs b place (sym size) ∙ (is ∙ ap f (sym at))

  inside : (k : ℕ) → k < m → block_bytes p (xs ++ b) k ≡ f k
  inside k low =
      let up : (k + 1) * 2 ^ p ≤ m * 2 ^ p = mul-le-mul_right (2 ^ p) (omega (arith, low)) in
      let product : (k + 1) * 2 ^ p ≡ k * 2 ^ p + 2 ^ p = omega arith in
      window_left (2 ^ p) (k * 2 ^ p) xs b (omega (arith, up, product, len)) ∙ before k low

  pub more_blocks : (k : ℕ) → k < m + 1 → block_bytes p (xs ++ b) k ≡ f k
  more_blocks k low = elim (cases_lt k m) [ inl less ↦ inside k less | inr more ↦ at_end k (omega (arith, low, more)) ]

-- each of a quarter's blocks, and nothing behind them
pub all_blocks : (p n m row : ℕ) (xs all : List ℕ) → length xs ≡ m * 2 ^ p → length all ≡ 4 * n * 2 ^ p → n ≤ m → ((k : ℕ) → k < m → block_bytes p xs k ≡ block_bytes p all (4 * k + row))
    → (j : ℕ) → block_bytes p xs j ≡ block_bytes p all (4 * j + row)
all_blocks p n m row xs all len size enough before j = elim (cases_lt j m) [ inl less ↦ before j less | inr more ↦ block_past p m j xs len more ∙ sym (block_past p (4 * n) (4 * j + row) all size (omega (arith, more, enough))) ]

pub all_queues_dealt : (n row : ℕ) (xs all : List QueueAt) → length xs ≡ n → length all ≡ 4 * n → ((k : ℕ) → k < n → queue_at xs k ≡ queue_at all (4 * k + row)) → (j : ℕ) → queue_at xs j ≡ queue_at all (4 * j + row)
all_queues_dealt n row xs all len size before j = elim (cases_lt j n) [
  | inl less ↦ before j less
  | inr more ↦ get_or_past xs j no_waiters (omega (arith, more, len)) ∙ sym (get_or_past all (4 * j + row) no_waiters (omega (arith, more, size)))
]

-- what is dealt out is there
module _ {V : Type 0} (a b c d : ℕ → V) (j : ℕ) where
  pub dealt_first : dealt a b c d (4 * j) ≡ a j
  dealt_first =
      let rest : 4 * j % 4 ≡ 0 = omega arith in
      let quotient : 4 * j / 4 ≡ j = omega arith in
      rw (equal_yes (4 * j % 4) 0 rest) (ap a quotient)

  pub dealt_second : dealt a b c d (4 * j + 1) ≡ b j
  dealt_second =
      let rest : (4 * j + 1) % 4 ≡ 1 = omega arith in
      let quotient : (4 * j + 1) / 4 ≡ j = omega arith in
      rw (differ_no ((4 * j + 1) % 4) 0 (λ e. absurd (omega (arith, e, rest))), equal_yes ((4 * j + 1) % 4) 1 rest) (ap b quotient)

  pub dealt_third : dealt a b c d (4 * j + 2) ≡ c j
  dealt_third =
      let rest : (4 * j + 2) % 4 ≡ 2 = omega arith in
      let quotient : (4 * j + 2) / 4 ≡ j = omega arith in
      rw (differ_no ((4 * j + 2) % 4) 0 (λ e. absurd (omega (arith, e, rest))), differ_no ((4 * j + 2) % 4) 1 (λ e. absurd (omega (arith, e, rest))), equal_yes ((4 * j + 2) % 4) 2 rest) (ap c quotient)

  pub dealt_fourth : dealt a b c d (4 * j + 3) ≡ d j
  dealt_fourth =
      let rest : (4 * j + 3) % 4 ≡ 3 = omega arith in
      let quotient : (4 * j + 3) / 4 ≡ j = omega arith in
      rw (differ_no ((4 * j + 3) % 4) 0 (λ e. absurd (omega (arith, e, rest))), differ_no ((4 * j + 3) % 4) 1 (λ e. absurd (omega (arith, e, rest))), differ_no ((4 * j + 3) % 4) 2 (λ e. absurd (omega (arith, e, rest)))) (ap d quotient)

-- what holds of each of the four holds of what is dealt out
pub dealt_any : {V : Type 0} (P : V → Type 0) (a b c d : ℕ → V) (i : ℕ) → P (a (i / 4)) → P (b (i / 4)) → P (c (i / 4)) → P (d (i / 4)) → P (dealt a b c d i)
dealt_any {V} P a b c d i pa pb pc pd = pick (i % 4 == 0) (i % 4 == 1) (i % 4 == 2) where
  pick : (x y z : Bool) → P (cond x (a (i / 4)) (cond y (b (i / 4)) (cond z (c (i / 4)) (d (i / 4)))))
  pick true y z = pa
  pick false true z = pb
  pick false false true = pc
  pick false false false = pd

pub block_len : (p n k : ℕ) (all : List ℕ) → length all ≡ n * 2 ^ p → k < n → length (block_bytes p all k) ≡ 2 ^ p
block_len p n k all len low =
    let up : (k + 1) * 2 ^ p ≤ n * 2 ^ p = mul-le-mul_right (2 ^ p) (omega (arith, low)) in
    let product : (k + 1) * 2 ^ p ≡ k * 2 ^ p + 2 ^ p = omega arith in
    length-window (k * 2 ^ p) (2 ^ p) all (omega (arith, up, product, len))

-- four quarters of a memory's blocks
pub quarters : (L : MemoryLimits) (m : MemoryAt) (count : ℕ) (all : List ℕ) → L ≡ m.limits → IsSound m → count ≡ blocks_in m.limits.block m.limits.capacity → all ≡ m.bytes
    → (count ≡ 4 * quarter_of L.block L.capacity) × (length all ≡ 4 * quarter_of L.block L.capacity * 2 ^ L.block)
quarters L m count all is sound counted bytes =
    let high : L.block ≤ 12 = subst (λ (l : MemoryLimits). l.block ≤ 12) (sym is) sound.greatest_block in (
      counted ∙ ap (λ (l : MemoryLimits). blocks_in l.block l.capacity) (sym is) ∙ four_quarters L.block L.capacity high,
      ap length bytes ∙ sound.all_bytes ∙ ap (λ (l : MemoryLimits). l.capacity * 65536) (sym is) ∙ sym (quarters_fill L.block L.capacity high),
    )

-- the bytes of four quarters are those of a memory, and behind them there are none
pub gathered_blocks : (p n m : ℕ) (xs a b c d : List ℕ) → length xs ≡ m * 2 ^ p → 4 * n ≤ m → length a ≡ n * 2 ^ p → length b ≡ n * 2 ^ p → length c ≡ n * 2 ^ p → length d ≡ n * 2 ^ p
    → ((k : ℕ) → k < m → block_bytes p xs k ≡ dealt (block_bytes p a) (block_bytes p b) (block_bytes p c) (block_bytes p d) k) → (i : ℕ) → block_bytes p xs i ≡ dealt (block_bytes p a) (block_bytes p b) (block_bytes p c) (block_bytes p d) i
gathered_blocks p n m xs a b c d len enough la lb lc ld before i = elim (cases_lt i m) [ inl less ↦ before i less | inr more ↦ behind more ] where
  behind : m ≤ i → block_bytes p xs i ≡ dealt (block_bytes p a) (block_bytes p b) (block_bytes p c) (block_bytes p d) i
  behind more =
      let past : n ≤ i / 4 = omega (arith, more, enough) in
      block_past p m i xs len more
      ∙ sym (dealt_any (λ v. v ≡ []) (block_bytes p a) (block_bytes p b) (block_bytes p c) (block_bytes p d) i (block_past p n (i / 4) a la past) (block_past p n (i / 4) b lb past) (block_past p n (i / 4) c lc past) (block_past p n (i / 4) d ld past))

pub gathered_queues : (n m : ℕ) (xs a b c d : List QueueAt) → length xs ≡ 4 * n → 4 * n ≤ m → length a ≡ n → length b ≡ n → length c ≡ n → length d ≡ n
    → ((k : ℕ) → k < m → queue_at xs k ≡ dealt (queue_at a) (queue_at b) (queue_at c) (queue_at d) k) → (i : ℕ) → queue_at xs i ≡ dealt (queue_at a) (queue_at b) (queue_at c) (queue_at d) i
gathered_queues n m xs a b c d len enough la lb lc ld before i = elim (cases_lt i m) [ inl less ↦ before i less | inr more ↦ behind more ] where
  none : (q : List QueueAt) → length q ≡ n → n ≤ i / 4 → queue_at q (i / 4) ≡ no_waiters
  none q lq past = get_or_past q (i / 4) no_waiters (omega (arith, lq, past))

  behind : m ≤ i → queue_at xs i ≡ dealt (queue_at a) (queue_at b) (queue_at c) (queue_at d) i
  behind more =
      let past : n ≤ i / 4 = omega (arith, more, enough) in
      get_or_past xs i no_waiters (omega (arith, len, enough, more))
      ∙ sym (dealt_any (λ v. v ≡ no_waiters) (queue_at a) (queue_at b) (queue_at c) (queue_at d) i (none a la past) (none b lb past) (none c lc past) (none d ld past))
