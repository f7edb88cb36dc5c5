-- One thread more has its end.
use Rattle.std.proofs.Common.{◌≡◌, ℕ, zero, suc, ◌<◌, List, [], ◌∷◌, ◌++◌, length, map, take, drop, Option, Some, None, slice_get, option_map, refl, sym, ap, ◌∙◌, arith, inl, inr}
use Rattle.std.proofs.lemmas.Option.{slice_get_cases}

pub drop_more : {A : Type 0} (xs : List A) (n : ℕ) (x : A) (rest : List A) → drop n xs ≡ x ∷ rest → (n < length xs) × (rest ≡ drop (suc n) xs)
drop_more [] zero x rest e = absurd (cc)
drop_more [] (suc n) x rest e = absurd (cc)
drop_more (y ∷ ys) zero x rest e = let r : ys ≡ rest = cc in (omega arith, sym r)
drop_more (y ∷ ys) (suc n) x rest e = let h = drop_more ys n x rest e in (omega (arith, h.0), h.1)

pub map_more : {A B : Type 0} (f : A → B) (xs : List A) (x : A) → map f (xs ++ x ∷ []) ≡ map f xs ++ f x ∷ []
map_more f [] x = refl
map_more f (y ∷ ys) x = ap (λ l. f y ∷ l) (map_more f ys x)

-- what is seen of a list after a push
pub map_push : {A B : Type 0} (f : A → B) (news xs : List A) (x : A) (b : B) (ys zs : List B) → news ≡ xs ++ x ∷ [] → f x ≡ b → map f xs ≡ ys → ys ++ b ∷ [] ≡ zs → map f news ≡ zs
map_push f news xs x b ys zs e h is to = ap (map f) e ∙ (map_more f xs x ∙ (ap (λ l. l ++ f x ∷ []) is ∙ (ap (λ y. ys ++ y ∷ []) h ∙ to)))

pub length_more : {A : Type 0} (xs : List A) (x : A) → length (xs ++ x ∷ []) ≡ suc (length xs)
length_more [] x = refl
length_more (y ∷ ys) x = ap suc (length_more ys x)

pub take_one_more : {A B : Type 0} (f : A → B) (xs : List A) (n : ℕ) (x : A) → slice_get xs n ≡ Some x → map f (take (suc n) xs) ≡ map f (take n xs) ++ f x ∷ []
take_one_more f [] n x e = absurd (cc)
take_one_more f (y ∷ ys) zero x e = let s : y ≡ x = cc in ap (λ z. f z ∷ []) s
take_one_more f (y ∷ ys) (suc n) x e = ap (λ l. f y ∷ l) (take_one_more f ys n x e)

-- what was made of an item says which it is
pub made_of : {A B : Type 0} (f : A → B) (o : Option A) (b : B) → option_map f o ≡ Some b → (a : A) × (o ≡ Some a) × (f a ≡ b)
made_of f None b e = absurd (cc)
made_of f (Some a) b e = (a, refl, cc)

pub made_of_none : {A B : Type 0} (f : A → B) (xs : List A) (n : ℕ) → n < length xs → option_map f (slice_get xs n) ≡ None → ⊥
made_of_none f xs n l e =
    elim (slice_get_cases xs n).1 [
      | inl h ↦ let z : Some (f h.0) ≡ None = ap (option_map f) (sym h.2) ∙ e in cc
      | inr h ↦ absurd (let m = h.0 in omega (arith, l, m))
    ]
