-- What is left of a list from a place on.
use Rattle.std.proofs.Common.{◌≡◌, ℕ, ◌+◌, ◌<◌, List, ◌∷◌, length, drop, Some, slice_get, sym, ap, ◌∙◌, add-one, suc, inl, inr, arith}
use Rattle.std.proofs.Math.Seq.{drop-cons}
use Rattle.std.proofs.lemmas.Option.{slice_get_within, slice_get_cases, get_or_from_slice_get}

-- what is left from a place on begins with the element there
pub drop_at : {B : Type 0} (xs : List B) (n : ℕ) (b : B) → slice_get xs n ≡ Some b → drop n xs ≡ b ∷ drop (n + 1) xs
drop_at {B} xs n b there =
    let below : n < length xs = slice_get_within xs n b there in
    drop-cons xs n b below
    ∙ ap (λ (x : B). x ∷ drop (suc n) xs) (get_or_from_slice_get xs n b b there)
    ∙ ap (λ (k : ℕ). b ∷ drop k xs) (sym (add-one n))

-- there is an element at each place below the length
pub there : {B : Type 0} (xs : List B) (n : ℕ) → n < length xs → (b : B) × (slice_get xs n ≡ Some b)
there xs n below = elim (slice_get_cases xs n).1 [
  | inl h ↦ (h.0, h.2)
  | inr h ↦ absurd (omega (arith, below, h.0))
]
