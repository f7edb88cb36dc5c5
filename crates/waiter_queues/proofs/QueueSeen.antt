-- What an operation on a queue finds.
use Rattle.std.proofs.Common.{◌≡◌, ℕ, ◌+◌, ◌*◌, ◌-◌, ◌/◌, ◌%◌, ◌^◌, ◌<◌, ◌≤◌, ◌⊎◌, inl, inr, Bool, true, false, cond, List, [], ◌∷◌, ◌++◌, refl, sym, ap, ◌∙◌, arith}
use Rattle.std.specs.Int.{byte_len}
use Rattle.std.proofs.lemmas.List.{append-nil}
use Rattle.std.proofs.Math.Pow.{pow_mono}
use Rattle.std.proofs.Math.Nat.{mod-lt}
use Rattle.std.proofs.lemmas.Nat.{shr_split, pow-add}
use Rattle.rw_objects.specs.declared.touch.Mode.TheVariants.{Read, Write}
use Rattle.rw_objects.specs.Space.{touched_values}
use Rattle.wasm_types.specs.declared.value.ValType.{ValType}
use Rattle.wasm_types.specs.declared.value.ValType.TheVariants as types
use Rattle.block_objects.specs.Objects.{ObjectAt, QueueAt, block_of, block_object, queue_object, block_bytes, object_value}
use Rattle.wasm_types.specs.Accesses.{type_width}
use Rattle.block_objects.specs.Access.{number_at}
use Rattle.block_objects.specs.Touches.{touch_of}
use Rattle.block_objects.specs.Effects.{pages_seen, bytes_seen, queue_seen}
use Rattle.block_objects.proofs.Values.{value_block, value_queue}
use Rattle.block_objects.proofs.NumbersIn.{number_in}

module _ (p pages : ℕ) (bytes : List ℕ) (queues : ℕ → QueueAt) (ini b : ℕ) where
  abbrev V : ℕ → ObjectAt
  V = object_value p pages bytes queues

  pub queue_of_one : queue_seen (touched_values (touch_of Write (queue_object b) ∷ []) V) ≡ queues b
  queue_of_one = rw (value_queue p pages bytes queues b) refl

  pub queue_of_notify : (within : Bool) → queue_seen (touched_values (cond within [] (touch_of Read 0 ∷ []) ++ (touch_of Write (queue_object b) ∷ [])) V) ≡ queues b
  queue_of_notify true = rw (value_queue p pages bytes queues b) refl
  queue_of_notify false = rw (value_queue p pages bytes queues b) refl

  pub pages_of_notify : (within : Bool) → pages_seen ini (touched_values (cond within [] (touch_of Read 0 ∷ []) ++ (touch_of Write (queue_object b) ∷ [])) V) ≡ cond within ini pages
  pages_of_notify true = rw (value_queue p pages bytes queues b) refl
  pages_of_notify false = refl

  pub queue_of_wait : (within : Bool) → queue_seen (touched_values (cond within [] (touch_of Read 0 ∷ []) ++ (touch_of Read (block_object b) ∷ touch_of Write (queue_object b) ∷ [])) V) ≡ queues b
  queue_of_wait true = rw (value_block p pages bytes queues b, value_queue p pages bytes queues b) refl
  queue_of_wait false = rw (value_block p pages bytes queues b, value_queue p pages bytes queues b) refl

  pub pages_of_wait : (within : Bool) → pages_seen ini (touched_values (cond within [] (touch_of Read 0 ∷ []) ++ (touch_of Read (block_object b) ∷ touch_of Write (queue_object b) ∷ [])) V) ≡ cond within ini pages
  pages_of_wait true = rw (value_block p pages bytes queues b, value_queue p pages bytes queues b) refl
  pages_of_wait false = refl

  pub bytes_of_wait : (within : Bool) → bytes_seen (touched_values (cond within [] (touch_of Read 0 ∷ []) ++ (touch_of Read (block_object b) ∷ touch_of Write (queue_object b) ∷ [])) V) ≡ block_bytes p bytes b
  bytes_of_wait true = rw (value_block p pages bytes queues b, value_queue p pages bytes queues b) (append-nil _)
  bytes_of_wait false = rw (value_block p pages bytes queues b, value_queue p pages bytes queues b) (append-nil _)

-- an aligned number lies in one block
in_one : (address place size unit first len : ℕ) → first * size + place ≡ address → place < size → size ≡ len * unit → address % len ≡ 0 → (len ≡ 4) ⊎ (len ≡ 8) → place + len ≤ size
in_one address place size unit first len is low divides aligned (inl e) =
    let product : first * size ≡ 4 * (first * unit) = ap (λ s. first * s) divides ∙ (ap (λ l. first * (l * unit)) e ∙ omega arith) in
    let units : size ≡ 4 * unit = divides ∙ ap (λ l. l * unit) e in
    let whole : address % 4 ≡ 0 = ap (λ l. address % l) (sym e) ∙ aligned in
    omega (arith, product, units, whole, e, is, low)
in_one address place size unit first len is low divides aligned (inr e) =
    let product : first * size ≡ 8 * (first * unit) = ap (λ s. first * s) divides ∙ (ap (λ l. first * (l * unit)) e ∙ omega arith) in
    let units : size ≡ 8 * unit = divides ∙ ap (λ l. l * unit) e in
    let whole : address % 8 ≡ 0 = ap (λ l. address % l) (sym e) ∙ aligned in
    omega (arith, product, units, whole, e, is, low)

four_divides : (p : ℕ) → 6 ≤ p → 2 ^ p ≡ 4 * 2 ^ (p - 2)
four_divides p low = let e : 2 + (p - 2) ≡ p = omega arith in ap (λ k. 2 ^ k) (sym e) ∙ pow-add 2 2 (p - 2)

eight_divides : (p : ℕ) → 6 ≤ p → 2 ^ p ≡ 8 * 2 ^ (p - 3)
eight_divides p low = let e : 3 + (p - 3) ≡ p = omega arith in ap (λ k. 2 ^ k) (sym e) ∙ pow-add 2 3 (p - 3)

place_low : (p address : ℕ) → 6 ≤ p → address % 2 ^ p < 2 ^ p
place_low p address low = let least : 2 ^ 6 ≤ 2 ^ p = pow_mono low in let pos : 0 < 2 ^ p = omega (arith, least) in mod-lt address pos

aligned_fits : (p address : ℕ) (t : ValType) → 6 ≤ p → address % byte_len (type_width t) ≡ 0 → address % 2 ^ p + byte_len (type_width t) ≤ 2 ^ p
aligned_fits p address types.I32 low aligned = in_one address (address % 2 ^ p) (2 ^ p) (2 ^ (p - 2)) (address / 2 ^ p) 4 (shr_split address p) (place_low p address low) (four_divides p low) aligned (inl refl)
aligned_fits p address types.I64 low aligned = in_one address (address % 2 ^ p) (2 ^ p) (2 ^ (p - 3)) (address / 2 ^ p) 8 (shr_split address p) (place_low p address low) (eight_divides p low) aligned (inr refl)

-- a number that is aligned is found in its block
pub number_of_wait : (p address : ℕ) (t : ValType) (bytes : List ℕ) → 6 ≤ p → address % byte_len (type_width t) ≡ 0
    → number_at (type_width t) (address % 2 ^ p) (block_bytes p bytes (block_of p address)) ≡ number_at (type_width t) address bytes
number_of_wait p address t bytes low aligned =
    number_in (type_width t) (address / 2 ^ p * 2 ^ p) (2 ^ p) (address % 2 ^ p) bytes (aligned_fits p address t low aligned) ∙
    ap (λ a. number_at (type_width t) a bytes) (shr_split address p)
