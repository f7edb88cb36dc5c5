-- A number in a part of the bytes is that of the bytes.
use Rattle.std.proofs.Common.{◌≡◌, ℕ, zero, suc, ◌+◌, ◌-◌, ◌<◌, ◌≤◌, Bool, true, false, List, length, get_or, slice_index, take, drop, Option, Some, None, refl, sym, ap, ◌∙◌, arith}
use Rattle.std.specs.Int.{Width, w8, w16, w32, w64, w128, byte_len, to_le_bytes, sum_through, byte_worth}
use Rattle.std.proofs.lemmas.List.{get_or-drop}
use Rattle.block_objects.specs.Access.{number_at, with_number_if}
use Rattle.block_objects.specs.Effects.{access_bytes}
use Rattle.block_objects.proofs.Windows.{window_at, window_overwrite}

pub to_le_bytes_len : (w : Width) (n : ℕ) → length (to_le_bytes w n) ≡ byte_len w
to_le_bytes_len w8 n = refl
to_le_bytes_len w16 n = refl
to_le_bytes_len w32 n = refl
to_le_bytes_len w64 n = refl
to_le_bytes_len w128 n = refl

sum_same : (f g : ℕ → ℕ) (k : ℕ) → ((i : ℕ) → i ≤ k → f i ≡ g i) → sum_through f k ≡ sum_through g k
sum_same f g zero h = h 0 (omega arith)
sum_same f g (suc k) h =
    let rest : sum_through f k ≡ sum_through g k = sum_same f g k (λ i le. h i (omega (arith, le))) in
    let last : f (suc k) ≡ g (suc k) = h (suc k) (omega arith) in
    cc

pub some_bytes : (w : Width) → 0 < byte_len w
some_bytes w8 = omega arith
some_bytes w16 = omega arith
some_bytes w32 = omega arith
some_bytes w64 = omega arith
some_bytes w128 = omega arith

-- a number depends on its bytes alone
pub number_same : (w : Width) (at to : ℕ) (xs ys : List ℕ) → ((i : ℕ) → i < byte_len w → get_or (drop at xs) i 0 ≡ get_or (drop to ys) i 0) → number_at w at xs ≡ number_at w to ys
number_same w at to xs ys h =
    sum_same (λ i. byte_worth i (slice_index (drop at xs) i)) (λ i. byte_worth i (slice_index (drop to ys) i)) (byte_len w - 1)
    (λ i le. ap (byte_worth i) (h i (omega (arith, le, some_bytes w))))

pub number_in : (w : Width) (k n at : ℕ) (bytes : List ℕ) → at + byte_len w ≤ n → number_at w at (take n (drop k bytes)) ≡ number_at w (k + at) bytes
number_in w k n at bytes fits = number_same w at (k + at) (take n (drop k bytes)) bytes one where
  one : (i : ℕ) → i < byte_len w → get_or (drop at (take n (drop k bytes))) i 0 ≡ get_or (drop (k + at) bytes) i 0
  one i h =
      let within : at + i < n = omega arith in
      let place : k + (at + i) ≡ k + at + i = omega arith in
      get_or-drop at (take n (drop k bytes)) i 0 ∙ (window_at k n bytes (at + i) 0 within ∙ (ap (λ j. get_or bytes j 0) place ∙ sym (get_or-drop (k + at) bytes i 0)))

stored_in : (w : Width) (k n at : ℕ) (bytes : List ℕ) (new : Option ℕ) → at + byte_len w ≤ n → k + n ≤ length bytes → with_number_if w at new (take n (drop k bytes)) ≡ take n (drop k (with_number_if w (k + at) new bytes))
stored_in w k n at bytes None fits within = refl
stored_in w k n at bytes (Some number) fits within = window_overwrite k n at (to_le_bytes w number) bytes (omega (arith, to_le_bytes_len w number)) within

-- what an access leaves of a part of the bytes is that part of what it leaves
pub access_in : (b : Bool) (w : Width) (k n at : ℕ) (bytes : List ℕ) (stored : ℕ → Option ℕ) → at + byte_len w ≤ n → k + n ≤ length bytes → access_bytes b w at stored (take n (drop k bytes)) ≡ take n (drop k (access_bytes b w (k + at) stored bytes))
access_in false w k n at bytes stored fits within = refl
access_in true w k n at bytes stored fits within =
    ap (λ number. with_number_if w at (stored number) (take n (drop k bytes))) (number_in w k n at bytes fits) ∙ stored_in w k n at bytes (stored (number_at w (k + at) bytes)) fits within
