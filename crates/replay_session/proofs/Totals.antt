-- The steps of all threads, thread by thread.
use Rattle.std.proofs.Common.{◌≡◌, ℕ, zero, suc, ◌+◌, ◌<◌, ◌≤◌, List, [], ◌∷◌, length, take, Option, Some, None, slice_get, option_map, refl, ap, arith}
use Rattle.std.specs.Prelude.{sum_by}
use Rattle.std.proofs.lemmas.List.Sums.{sum_by-cons}
use Rattle.rw_objects.specs.Code.{Code}
use Rattle.rw_objects.specs.Memory.{Memory}
use Rattle.event_core.specs.Sound.{IsSound}
use Rattle.event_core.specs.Threads.{ThreadAt, all_steps}

some_more : {A : Type 0} (f : A → ℕ) (xs : List A) (k n : ℕ) → option_map f (slice_get xs k) ≡ Some n → sum_by f (take (suc k) xs) ≡ sum_by f (take k xs) + n
some_more f [] k n h = absurd cc
some_more f (x ∷ xs) zero n h = let e : f x ≡ n = cc in simp sum_by-cons (omega (arith, e))
some_more f (x ∷ xs) (suc k) n h = let e = some_more f xs k n h in simp sum_by-cons (omega (arith, e))

none_within : {A : Type 0} (f : A → ℕ) (xs : List A) (k : ℕ) → option_map f (slice_get xs k) ≡ None → k < length xs → ⊥
none_within f [] k h l = omega (arith, l)
none_within f (x ∷ xs) zero h l = cc
none_within f (x ∷ xs) (suc k) h l = none_within f xs k h (omega (arith, l))

made_of : {A : Type 0} (f : A → ℕ) (o : Option A) (n : ℕ) → option_map f o ≡ Some n → (x : A) × (o ≡ Some x) × (f x ≡ n)
made_of f None n h = absurd cc
made_of f (Some x) n h = (x, refl, cc)

module _ {State Op Reply Fixed : Type 0} (code : Code State Op Reply Fixed) where
  pub sum_more : (ts : List (ThreadAt State)) (k n sum : ℕ) → option_map (λ t. code.steps t.state) (slice_get ts k) ≡ Some n → sum ≡ all_steps code (take k ts) → sum + n ≡ all_steps code (take (k + 1) ts)
  sum_more ts k n sum h is =
      let e = some_more (λ (t : ThreadAt State). code.steps t.state) ts k n h in
      let z = ap (λ j. all_steps code (take j ts)) (let y : suc k ≡ k + 1 = omega arith in y) in
      omega (arith, e, z, is)

  pub no_thread : (ts : List (ThreadAt State)) (k : ℕ) → option_map (λ t. code.steps t.state) (slice_get ts k) ≡ None → k < length ts → ⊥
  no_thread ts k h l = none_within (λ (t : ThreadAt State). code.steps t.state) ts k h l

  pub few_steps : {Value : Type 0} (ts : List (ThreadAt State)) (m : Memory Value Fixed) → IsSound code ts m → (k n : ℕ) → option_map (λ t. code.steps t.state) (slice_get ts k) ≡ Some n → n ≤ 1000000000
  few_steps ts m sound k n h =
      let x = made_of (λ (t : ThreadAt State). code.steps t.state) (slice_get ts k) n h in
      let s = (sound.each k x.0 x.1).steps in
      let e = x.2 in
      omega (arith, s, e)
