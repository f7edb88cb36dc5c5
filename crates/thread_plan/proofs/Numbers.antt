-- Numbers from 0 on, one after the other.
use Rattle.std.proofs.Common.{◌≡◌, ◌+◌, ℕ, Bool, true, false, List, [], ◌∷◌, ◌++◌, cond, ap, sym, ◌∙◌, arith}
use Rattle.std.specs.List.{filter, flat_map, range_with_len}
use Rattle.std.proofs.lemmas.List.{map-id, append-nil, append_assoc}
use Rattle.std.proofs.lemmas.List.Elements.{filter-append}
use Rattle.std.proofs.lemmas.List.FromFn.{map-range_with_len_more}

one_more : (n : ℕ) → range_with_len 0 (n + 1) ≡ range_with_len 0 n ++ n ∷ []
one_more n = sym (map-id (range_with_len 0 (n + 1))) ∙ map-range_with_len_more (λ k. k) 0 n n (omega arith) ∙ ap (λ ks. ks ++ n ∷ []) (map-id (range_with_len 0 n))

-- the numbers that pass a test
passing_more : (p : ℕ → Bool) (n : ℕ) → filter p (range_with_len 0 (n + 1)) ≡ filter p (range_with_len 0 n) ++ cond (p n) (n ∷ []) []
passing_more p n = ap (filter p) (one_more n) ∙ filter-append p (range_with_len 0 n) (n ∷ [])

flat_append : (f : ℕ → List ℕ) (ks : List ℕ) (n : ℕ) → flat_map f (ks ++ n ∷ []) ≡ flat_map f ks ++ f n
flat_append f [] n = append-nil (f n)
flat_append f (k ∷ ks) n = ap (λ text. f k ++ text) (flat_append f ks n) ∙ sym (append_assoc (f k) (flat_map f ks) (f n))

-- what is written of them
pub written_more : (f : ℕ → List ℕ) (n : ℕ) → flat_map f (range_with_len 0 (n + 1)) ≡ flat_map f (range_with_len 0 n) ++ f n
written_more f n = ap (flat_map f) (one_more n) ∙ flat_append f (range_with_len 0 n) n

module _ (p : ℕ → Bool) (n : ℕ) (old new : List ℕ) (so_far : old ≡ filter p (range_with_len 0 n)) where
  pub one_passes : p n ≡ true → new ≡ old ++ n ∷ [] → new ≡ filter p (range_with_len 0 (n + 1))
  one_passes passes is = is ∙ ap (λ ks. ks ++ n ∷ []) so_far ∙ sym (passing_more p n ∙ ap (λ b. filter p (range_with_len 0 n) ++ cond b (n ∷ []) []) passes)

  pub one_fails : p n ≡ false → new ≡ old → new ≡ filter p (range_with_len 0 (n + 1))
  one_fails fails is = is ∙ so_far ∙ sym (passing_more p n ∙ ap (λ b. filter p (range_with_len 0 n) ++ cond b (n ∷ []) []) fails ∙ append-nil (filter p (range_with_len 0 n)))

-- a text behind which three more are put
pub put_behind : (a h f x b c d : List ℕ) → b ≡ a ++ h → c ≡ b ++ f → d ≡ c ++ x → d ≡ a ++ (h ++ (f ++ x))
put_behind a h f x b c d first second third = third ∙ ap (λ t. t ++ x) (second ∙ ap (λ t. t ++ f) first) ∙ append_assoc (a ++ h) f x ∙ append_assoc a h (f ++ x)
