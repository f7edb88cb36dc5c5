-- The values of a memory's objects.
use Rattle.std.proofs.Common.{◌≡◌, ℕ, zero, suc, ◌-◌, ◌/◌, ◌%◌, ◌≢◌, ◌⊎◌, inl, inr, true, false, cond, ◌==◌, List, refl, sym, ap, ◌∙◌, arith}
use Rattle.std.proofs.lemmas.Bool.Decides.{Decides-eqb}
use Rattle.std.proofs.lemmas.Bool.{cases_Bool, cases_eq}
use Rattle.block_objects.specs.Objects.{Bytes, Queue, QueueAt, block_object, queue_object, block_bytes, object_value}

pub equal_yes : (x y : ℕ) → x ≡ y → (x == y) ≡ true
equal_yes x y e = (Decides-eqb x y).1 e

pub differ_no : (x y : ℕ) → x ≢ y → (x == y) ≡ false
differ_no x y ne = elim (cases_Bool (x == y)) [ inl e ↦ absurd (ne ((Decides-eqb x y).0 e)) | inr e ↦ e ]

pub no_differ : (x y : ℕ) → (x == y) ≡ false → x ≢ y
no_differ x y h e = let t : (x == y) ≡ true = equal_yes x y e in let bad : true ≡ false = sym t ∙ h in cc

-- an object behind the length is a block or a queue
odd_or_even : (power pages : ℕ) (bytes : List ℕ) (queues : ℕ → QueueAt) (o b : ℕ) → o ≢ 0 → (o - 1) / 2 ≡ b →
    object_value power pages bytes queues o ≡ cond ((o - 1) % 2 == 0) (Bytes (block_bytes power bytes b)) (Queue (queues b))
odd_or_even power pages bytes queues o b ne half = rw (differ_no o 0 ne, half) refl

pub value_block : (power pages : ℕ) (bytes : List ℕ) (queues : ℕ → QueueAt) (b : ℕ) → object_value power pages bytes queues (block_object b) ≡ Bytes (block_bytes power bytes b)
value_block power pages bytes queues b =
    let ne : block_object b ≢ 0 = λ e. absurd (omega (arith, e)) in
    let half : (block_object b - 1) / 2 ≡ b = omega arith in
    let rest : (block_object b - 1) % 2 ≡ 0 = omega arith in
    odd_or_even power pages bytes queues (block_object b) b ne half ∙
    ap (λ t. cond t (Bytes (block_bytes power bytes b)) (Queue (queues b))) (equal_yes _ 0 rest)

pub value_queue : (power pages : ℕ) (bytes : List ℕ) (queues : ℕ → QueueAt) (b : ℕ) → object_value power pages bytes queues (queue_object b) ≡ Queue (queues b)
value_queue power pages bytes queues b =
    let ne : queue_object b ≢ 0 = λ e. absurd (omega (arith, e)) in
    let half : (queue_object b - 1) / 2 ≡ b = omega arith in
    let rest : (queue_object b - 1) % 2 ≢ 0 = λ e. absurd (omega (arith, e)) in
    odd_or_even power pages bytes queues (queue_object b) b ne half ∙
    ap (λ t. cond t (Bytes (block_bytes power bytes b)) (Queue (queues b))) (differ_no _ 0 rest)

-- each object is the length, a block or a queue
pub kinds_of : (o : ℕ) → (o ≡ 0) ⊎ (((b : ℕ) × (o ≡ block_object b)) ⊎ ((b : ℕ) × (o ≡ queue_object b)))
kinds_of zero = inl refl
kinds_of (suc n) = elim (cases_eq (n % 2) 0) [ inl even ↦ inr (inl (n / 2, omega (arith, even))) | inr odd ↦ inr (inr (n / 2, behind odd)) ] where
  behind : n % 2 ≢ 0 → suc n ≡ queue_object (n / 2)
  behind odd = omega (arith, odd)
