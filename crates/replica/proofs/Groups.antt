-- The first elements of a list, which have one number, and the others, which have greater ones.
use Rattle.std.proofs.Common.{◌≡◌, ℕ, ◌<◌, ◌≤◌, Bool, false, cond, List, [], ◌∷◌, ◌++◌, refl, sym, ap, subst, ◌∙◌, arith, ◌+◌}
use Rattle.std.specs.Prelude.{◌==◌, map}
use Rattle.std.specs.List.{AllByRecursion, flat_map}
use Rattle.std.proofs.lemmas.Bool.{ne_eqb, eq-eqb}
use Rattle.std.proofs.lemmas.List.{append-nil}
use Rattle.std.proofs.lemmas.List.Elements.{filter-append}
use Rattle.replica.specs.Rising.{put_in, rising, having, by_number}
use Rattle.replica.proofs.Numbers.{all_rising, put_least, put_again}

pub flat_map_agree : {K A : Type 0} (P : K → Type 0) (f g : K → List A) → ((k : K) → P k → f k ≡ g k) → (ks : List K) → AllByRecursion P ks → flat_map f ks ≡ flat_map g ks
flat_map_agree P f g same [] h = refl
flat_map_agree P f g same (k ∷ ks) h = ap (λ l. l ++ flat_map f ks) (same k h.0) ∙ ap (λ l. g k ++ l) (flat_map_agree P f g same ks h.1)

module _ {X : Type 0} (number : X → ℕ) where
  all_numbers : (n : ℕ) (xs : List X) → AllByRecursion (λ x. n < number x) xs → AllByRecursion (λ m. n < m) (map number xs)
  all_numbers n [] h = tt
  all_numbers n (x ∷ xs) h = (h.0, all_numbers n xs h.1)

  -- the numbers of a group and of what is behind it
  rising_group : (n : ℕ) (x : X) (xs rest : List X) → number x ≡ n → AllByRecursion (λ y. number y ≡ n) xs → AllByRecursion (λ y. n < number y) rest
      → rising (map number (x ∷ (xs ++ rest))) ≡ n ∷ rising (map number rest)
  rising_group n x [] rest is same above =
      ap (λ (k : ℕ). put_in k (rising (map number rest))) is ∙ put_least n (rising (map number rest)) (all_rising (λ m. n < m) (map number rest) (all_numbers n rest above))
  rising_group n x (y ∷ ys) rest is same above =
      ap (λ (k : ℕ). put_in k (rising (map number (y ∷ (ys ++ rest))))) is ∙ ap (put_in n) (rising_group n y ys rest same.0 same.1 above) ∙ put_again n (rising (map number rest))

  having_none : (n m : ℕ) (xs : List X) → m < n → AllByRecursion (λ y. n ≤ number y) xs → having number m xs ≡ []
  having_none n m [] lt h = refl
  having_none n m (x ∷ xs) lt h =
      let other : (number x == m) ≡ false = ne_eqb (number x) m (λ is. absurd (omega (arith, h.0))) in
      ap (λ (b : Bool). cond b (x ∷ having number m xs) (having number m xs)) other ∙ having_none n m xs lt h.1

  having_all : (n : ℕ) (xs : List X) → AllByRecursion (λ y. number y ≡ n) xs → having number n xs ≡ xs
  having_all n [] h = refl
  having_all n (x ∷ xs) h = ap (λ (b : Bool). cond b (x ∷ having number n xs) (having number n xs)) (eq-eqb (number x) n h.0) ∙ ap (λ l. x ∷ l) (having_all n xs h.1)

  all_same : (n : ℕ) (P : ℕ → Type 0) (xs : List X) → P n → AllByRecursion (λ y. number y ≡ n) xs → AllByRecursion (λ y. P (number y)) xs
  all_same n P [] p h = tt
  all_same n P (x ∷ xs) p h = (subst P (sym h.0) p, all_same n P xs p h.1)

  pub all_implied : (P Q : X → Type 0) (xs : List X) → ((x : X) → P x → Q x) → AllByRecursion P xs → AllByRecursion Q xs
  all_implied P Q [] f h = tt
  all_implied P Q (x ∷ xs) f h = (f x h.0, all_implied P Q xs f h.1)

  -- the elements of the group's number
  having_group : (n : ℕ) (xs rest : List X) → AllByRecursion (λ y. number y ≡ n) xs → AllByRecursion (λ y. n < number y) rest → having number n (xs ++ rest) ≡ xs
  having_group n xs rest same above =
      filter-append (λ y. number y == n) xs rest ∙ ap (λ l. l ++ having number n rest) (having_all n xs same)
      ∙ ap (λ l. xs ++ l) (having_above n rest above) ∙ append-nil xs
    where
      having_above : (m : ℕ) (ys : List X) → AllByRecursion (λ y. m < number y) ys → having number m ys ≡ []
      having_above m ys h = having_none (m + 1) m ys (omega arith) (all_implied (λ y. m < number y) (λ y. m + 1 ≤ number y) ys (λ y (lt : m < number y). omega arith) h)

  -- the elements of a greater number
  having_rest : (n m : ℕ) (xs rest : List X) → n < m → AllByRecursion (λ y. number y ≡ n) xs → having number m (xs ++ rest) ≡ having number m rest
  having_rest n m [] rest lt same = refl
  having_rest n m (x ∷ xs) rest lt same =
      let other : (number x == m) ≡ false = ne_eqb (number x) m (λ is. absurd (omega (arith, same.0))) in
      ap (λ (b : Bool). cond b (x ∷ having number m (xs ++ rest)) (having number m (xs ++ rest))) other ∙ having_rest n m xs rest lt same.1

  -- what there is for a group stands before what there is for the rest
  pub by_number_group : (part : ℕ → List X → List ℕ) (n : ℕ) (x : X) (xs rest : List X) → number x ≡ n → AllByRecursion (λ y. number y ≡ n) xs → AllByRecursion (λ y. n < number y) rest
      → by_number number part (x ∷ (xs ++ rest)) ≡ part n (x ∷ xs) ++ by_number number part rest
  by_number_group part n x xs rest is same above =
      let whole = x ∷ (xs ++ rest) in
      let of_whole : ℕ → List ℕ = λ (m : ℕ). part m (having number m whole) in
      let of_rest : ℕ → List ℕ = λ (m : ℕ). part m (having number m rest) in
      ap (flat_map of_whole) (rising_group n x xs rest is same above)
      ∙ ap (λ (l : List X). part n l ++ flat_map of_whole (rising (map number rest))) (having_group n (x ∷ xs) rest (is, same) above)
      ∙ ap (λ (l : List ℕ). part n (x ∷ xs) ++ l) (flat_map_agree (λ m. n < m) of_whole of_rest (λ m lt. ap (part m) (having_rest n m (x ∷ xs) rest lt (is, same)))
      (rising (map number rest)) (all_rising (λ m. n < m) (map number rest) (all_numbers n rest above)))
