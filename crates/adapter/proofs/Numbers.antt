-- One more of a list that is told by numbers.
use Rattle.std.proofs.Common.{◌≡◌, ℕ, zero, suc, ◌+◌, ◌<◌, List, [], ◌∷◌, ◌++◌, refl, ap, ◌∙◌, arith, take, drop, get_or, length, slice_get}
use Rattle.std.specs.Option.{option_to_list}
use Rattle.std.proofs.lemmas.Option.{slice_get_read}
use Rattle.adapter.specs.Numbered.{numbered}

behind : {X : Type 0} (a i : ℕ) (xs : List X) → slice_get (drop a xs) i ≡ slice_get xs (a + i)
behind zero i xs = let same : i ≡ 0 + i = omega arith in ap (slice_get xs) same
behind (suc a) zero [] = refl
behind (suc a) (suc i) [] = refl
behind (suc a) i (x ∷ xs) = let same : suc (a + i) ≡ suc a + i = omega arith in behind a i xs ∙ ap (slice_get (x ∷ xs)) same

module _ {X Y : Type 0} (f : ℕ → X → Y) where
  -- the element that stands at an index, if there is one
  numbered_one : (first i : ℕ) (xs : List X) → numbered f first (take (suc i) xs) ≡ numbered f first (take i xs) ++ numbered f (first + i) (option_to_list (slice_get xs i))
  numbered_one first zero [] = refl
  numbered_one first (suc i) [] = refl
  numbered_one first zero (x ∷ xs) = let same : first ≡ first + 0 = omega arith in ap (λ n. f n x ∷ []) same
  numbered_one first (suc i) (x ∷ xs) =
      let same : first + 1 + i ≡ first + suc i = omega arith in
      ap (λ ys. f first x ∷ ys) (numbered_one (first + 1) i xs ∙ ap (λ n. numbered f (first + 1) (take i xs) ++ numbered f n (option_to_list (slice_get xs i))) same)

  -- of what is behind some
  pub numbered_behind : (first i : ℕ) (xs : List X) → numbered f first (take (i + 1) (drop first xs)) ≡ numbered f first (take i (drop first xs)) ++ numbered f (first + i) (option_to_list (slice_get xs (first + i)))
  numbered_behind first i xs =
      let one : i + 1 ≡ suc i = omega arith in
      ap (λ n. numbered f first (take n (drop first xs))) one
      ∙ numbered_one first i (drop first xs) ∙ ap (λ o. numbered f first (take i (drop first xs)) ++ numbered f (first + i) (option_to_list o)) (behind first i xs)

  -- of a list from its beginning, where there may be one, and where there is one
  pub numbered_next : (i : ℕ) (xs : List X) → numbered f 0 (take (i + 1) xs) ≡ numbered f 0 (take i xs) ++ numbered f i (option_to_list (slice_get xs i))
  numbered_next i xs =
      let one : i + 1 ≡ suc i = omega arith in
      let same : 0 + i ≡ i = omega arith in
      ap (λ n. numbered f 0 (take n xs)) one ∙ numbered_one 0 i xs ∙ ap (λ n. numbered f 0 (take i xs) ++ numbered f n (option_to_list (slice_get xs i))) same

  pub numbered_more : (xs : List X) (i : ℕ) (x : X) → i < length xs → x ≡ get_or xs i x → numbered f 0 (take (i + 1) xs) ≡ numbered f 0 (take i xs) ++ f i x ∷ []
  numbered_more xs i x within is = numbered_next i xs ∙ ap (λ o. numbered f 0 (take i xs) ++ numbered f i (option_to_list o)) (slice_get_read xs (length xs) i x refl within is)
