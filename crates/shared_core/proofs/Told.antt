-- Flags that are put one behind the other in the place of what was there.
use Rattle.std.specs.Prelude.{slice_set, slice_index_or, map, ◌||◌}
use Rattle.std.specs.List.{list_any}
use Rattle.std.proofs.Common.{zero, suc, ◌≡◌, ◌<◌, ◌≤◌, ℕ, ◌+◌, ◌++◌, Bool, true, false, List, [], ◌∷◌, length, take, drop, refl, ap}
use native.Mathlib.Omega.{arith}

-- with one more of them
told_more : {A : Type 0} (f : A → Bool) (d : A) (xs : List A) (ys : List Bool) (i : ℕ) → i < length xs → i < length ys →
    slice_set (map f (take i xs) ++ drop i ys) i (f (slice_index_or xs i d)) ≡ map f (take (suc i) xs) ++ drop (suc i) ys
told_more f d [] ys i low fits = absurd (omega (arith, low))
told_more f d (x ∷ xs) [] i low fits = absurd (omega (arith, fits))
told_more f d (x ∷ xs) (y ∷ ys) zero low fits = refl
told_more f d (x ∷ xs) (y ∷ ys) (suc i) low fits = ap (λ zs. f x ∷ zs) (told_more f d xs ys i (omega (arith, low)) (omega (arith, fits)))

-- the same, of flags that are known to be these
pub told_step : {A : Type 0} (f : A → Bool) (d : A) (xs vs : List A) (ys zs : List Bool) (i : ℕ) (b : Bool) → vs ≡ xs → zs ≡ map f (take i xs) ++ drop i ys → b ≡ f (slice_index_or vs i d) → i < length vs → length xs ≤ length ys →
    slice_set zs i b ≡ map f (take (i + 1) xs) ++ drop (i + 1) ys
told_step f d xs vs ys zs i b same before flag low few =
    let l : i < length xs = rw same at low in
    let g : b ≡ f (slice_index_or xs i d) = rw same at flag in
    let e : i + 1 ≡ suc i = omega arith in
    rw (before, g, e) (told_more f d xs ys i l (omega (arith, l, few)))

-- whether some is told, with one more of them
any_more : {A : Type 0} (f : A → Bool) (d : A) (xs : List A) (i : ℕ) → i < length xs → list_any f (drop i xs) ≡ (f (slice_index_or xs i d) || list_any f (drop (suc i) xs))
any_more f d [] i low = absurd (omega (arith, low))
any_more f d (x ∷ xs) zero low = refl
any_more f d (x ∷ xs) (suc i) low = any_more f d xs i (omega (arith, low))

pub some_step : {A : Type 0} (f : A → Bool) (d : A) (xs vs : List A) (i : ℕ) (some b : Bool) → vs ≡ xs → b ≡ f (slice_index_or vs i d) → i < length vs →
    ((some || b) || list_any f (drop (i + 1) xs)) ≡ (some || list_any f (drop i xs))
some_step f d xs vs i true b same flag low = refl
some_step f d xs vs i false b same flag low =
    let l : i < length xs = rw same at low in
    let g : b ≡ f (slice_index_or xs i d) = rw same at flag in
    let e : i + 1 ≡ suc i = omega arith in
    rw (g, any_more f d xs i l, e) refl
