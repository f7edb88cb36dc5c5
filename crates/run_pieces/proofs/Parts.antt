-- Parts of lists.
use Rattle.std.proofs.Common.{◌≡◌, ℕ, zero, suc, ◌+◌, ◌<◌, Bool, true, false, ◌&&◌, List, [], ◌∷◌, take, drop, Some, None, slice_get, refl, ap, ◌∙◌, arith}
use Rattle.std.specs.List.{list_all}

pub get_drop : {A : Type 0} (xs : List A) (n i : ℕ) → slice_get (drop n xs) i ≡ slice_get xs (n + i)
get_drop [] zero i = refl
get_drop [] (suc n) i = refl
get_drop (x ∷ xs) zero i = ap (slice_get (x ∷ xs)) (let e : i ≡ 0 + i = omega arith in e)
get_drop (x ∷ xs) (suc n) i = get_drop xs n i ∙ ap (slice_get (x ∷ xs)) (let e : suc (n + i) ≡ suc n + i = omega arith in e)

-- what stands in the front of a list stands in the list
pub get_take : {A : Type 0} (xs : List A) (n i : ℕ) (x : A) → slice_get (take n xs) i ≡ Some x → slice_get xs i ≡ Some x
get_take [] zero i x e = e
get_take [] (suc n) i x e = e
get_take (y ∷ xs) zero i x e = absurd cc
get_take (y ∷ xs) (suc n) zero x e = e
get_take (y ∷ xs) (suc n) (suc i) x e = get_take xs n i x e

pub take_get : {A : Type 0} (xs : List A) (n i : ℕ) (x : A) → i < n → slice_get xs i ≡ Some x → slice_get (take n xs) i ≡ Some x
take_get [] zero i x l e = absurd cc
take_get [] (suc n) i x l e = e
take_get (y ∷ xs) zero i x l e = absurd (omega (arith, l))
take_get (y ∷ xs) (suc n) zero x l e = e
take_get (y ∷ xs) (suc n) (suc i) x l e = take_get xs n i x (omega (arith, l)) e

both_true : (b c : Bool) → (b && c) ≡ true → (b ≡ true) × (c ≡ true)
both_true true c e = (refl, e)
both_true false c e = absurd cc

pub and_true : (b c : Bool) → b ≡ true → c ≡ true → (b && c) ≡ true
and_true true c e f = f
and_true false c e f = absurd cc

pub all_drop : {A : Type 0} (p : A → Bool) (xs : List A) (n : ℕ) → list_all p xs ≡ true → list_all p (drop n xs) ≡ true
all_drop p [] zero e = e
all_drop p [] (suc n) e = e
all_drop p (x ∷ xs) zero e = e
all_drop p (x ∷ xs) (suc n) e = all_drop p xs n (both_true (p x) (list_all p xs) e).1

pub all_take : {A : Type 0} (p : A → Bool) (xs : List A) (n : ℕ) → list_all p xs ≡ true → list_all p (take n xs) ≡ true
all_take p [] zero e = e
all_take p [] (suc n) e = e
all_take p (x ∷ xs) zero e = refl
all_take p (x ∷ xs) (suc n) e = let b = both_true (p x) (list_all p xs) e in and_true (p x) (list_all p (take n xs)) b.0 (all_take p xs n b.1)

-- each item of a list that passes does
pub all_of : {A : Type 0} (p : A → Bool) (xs : List A) → ((i : ℕ) (x : A) → slice_get xs i ≡ Some x → p x ≡ true) → list_all p xs ≡ true
all_of p [] h = refl
all_of p (x ∷ xs) h = and_true (p x) (list_all p xs) (h 0 x refl) (all_of p xs (λ i y e. h (suc i) y e))

-- lists that have the same at each place
pub same_list : {A : Type 0} (xs ys : List A) → ((i : ℕ) → slice_get xs i ≡ slice_get ys i) → xs ≡ ys
same_list [] [] h = refl
same_list [] (y ∷ ys) h = absurd (let e : None ≡ Some y = h 0 in cc)
same_list (x ∷ xs) [] h = absurd (let e : Some x ≡ None = h 0 in cc)
same_list (x ∷ xs) (y ∷ ys) h =
    let e : Some x ≡ Some y = h 0 in
    let first : x ≡ y = cc in
    ap (λ z. z ∷ xs) first ∙ ap (λ zs. y ∷ zs) (same_list xs ys (λ i. h (suc i)))
