-- The blocks up to the present length are the bytes at that length.
use Rattle.std.proofs.Common.{◌≡◌, ℕ, zero, suc, ◌+◌, ◌-◌, ◌*◌, ◌/◌, ◌^◌, ◌≤◌, List, ◌++◌, take, sym, ap, ◌∙◌, arith}
use Rattle.std.proofs.Math.Seq.{take-add}
use Rattle.std.proofs.Math.Nat.{mul-le-mul_right}
use Rattle.std.proofs.lemmas.List.{take-take}
use Rattle.std.proofs.lemmas.Nat.{pow-add, shl-shr}
use Rattle.block_objects.specs.Objects.{QueueAt, blocks_in, block_object, object_value, value_bytes, bytes_of_blocks}
use Rattle.block_objects.specs.Memory.{MemoryAt, IsSound, present_bytes}
use Rattle.block_objects.specs.SharedMemory.{image_of}
use Rattle.block_objects.proofs.Values.{value_block}

blocks_are : (p pages : ℕ) (bytes : List ℕ) (queues : ℕ → QueueAt) (n : ℕ) → bytes_of_blocks n (object_value p pages bytes queues) ≡ take (n * 2 ^ p) bytes
blocks_are p pages bytes queues zero = let none : 0 ≡ 0 * 2 ^ p = omega arith in ap (λ k. take k bytes) none
blocks_are p pages bytes queues (suc n) =
    let next : n * 2 ^ p + 2 ^ p ≡ suc n * 2 ^ p = omega arith in
    ap (λ l. l ++ value_bytes (object_value p pages bytes queues (block_object n))) (blocks_are p pages bytes queues n) ∙
    (ap (λ v. take (n * 2 ^ p) bytes ++ value_bytes v) (value_block p pages bytes queues n) ∙
    (sym (take-add (n * 2 ^ p) (2 ^ p) bytes) ∙ ap (λ k. take k bytes) next))

-- blocks fill pages
whole_blocks : (c p : ℕ) → p ≤ 12 → blocks_in p c * 2 ^ p ≡ c * 65536
whole_blocks c p high =
    let sixteen : 16 - p + p ≡ 16 = omega arith in
    let page : 65536 ≡ 2 ^ (16 - p) * 2 ^ p = ap (λ k. 2 ^ k) (sym sixteen) ∙ pow-add 2 (16 - p) p in
    let pages : c * 65536 ≡ c * 2 ^ (16 - p) * 2 ^ p = ap (λ k. c * k) page ∙ omega arith in
    ap (λ k. k / 2 ^ p * 2 ^ p) pages ∙ (ap (λ k. k * 2 ^ p) (shl-shr (c * 2 ^ (16 - p)) p) ∙ sym pages)

pub image_is : (m : MemoryAt) (queues : ℕ → QueueAt) → IsSound m → image_of m.limits (object_value m.limits.block m.pages m.bytes queues) ≡ present_bytes m
image_is m queues sound =
    let up : m.pages * 65536 ≤ m.limits.capacity * 65536 = mul-le-mul_right 65536 sound.to_capacity in
    ap (take (m.pages * 65536)) (blocks_are m.limits.block m.pages m.bytes queues (blocks_in m.limits.block m.limits.capacity) ∙ ap (λ k. take k m.bytes) (whole_blocks m.limits.capacity m.limits.block sound.greatest_block)) ∙
    take-take (m.pages * 65536) (m.limits.capacity * 65536) m.bytes up
