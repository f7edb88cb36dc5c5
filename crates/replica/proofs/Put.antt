-- Texts that are put for some elements of a list, one behind the other.
use Rattle.std.proofs.Common.{◌≡◌, ◌<◌, ◌+◌, ℕ, Bool, true, false, cond, List, ◌∷◌, ◌++◌, length, drop, get_or, ap, sym, ◌∙◌, append_assoc}
use Rattle.std.specs.List.{flat_map, filter}
use Rattle.std.proofs.lemmas.List.{drop_more}

module _ {X : Type 0} (f : X → List ℕ) (p : X → Bool) (xs : List X) (i : ℕ) (d x : X) (old now all : List ℕ) (lt : i < length xs) (is : x ≡ get_or xs i d) (before : old ++ flat_map f (filter p (drop i xs)) ≡ all) where
  abbrev left : List X
  left = drop (i + 1) xs

  next : flat_map f (filter p (drop i xs)) ≡ flat_map f (cond (p x) (x ∷ filter p left) (filter p left))
  next = ap (λ ys. flat_map f (filter p ys)) (drop_more xs i d lt) ∙ ap (λ y. flat_map f (filter p (y ∷ left))) (sym is)

  pub put_one : p x ≡ true → now ≡ old ++ f x → now ++ flat_map f (filter p left) ≡ all
  put_one writes put =
      ap (λ text. text ++ flat_map f (filter p left)) put ∙ (let assoc : (old ++ f x) ++ flat_map f (filter p left) ≡ old ++ (f x ++ flat_map f (filter p left)) = simp append_assoc in assoc)
      ∙ ap (λ l. old ++ l) (sym (next ∙ ap (λ b. flat_map f (cond b (x ∷ filter p left) (filter p left))) writes)) ∙ before

  pub put_none : p x ≡ false → now ≡ old → now ++ flat_map f (filter p left) ≡ all
  put_none reads put =
      ap (λ text. text ++ flat_map f (filter p left)) put ∙ ap (λ l. old ++ l) (sym (next ∙ ap (λ b. flat_map f (cond b (x ∷ filter p left) (filter p left))) reads)) ∙ before
