-- The first elements of a list that rises, which have one number, and the others, which have greater ones.
use Rattle.std.proofs.Common.{◌≡◌, ℕ, suc, ◌+◌, ◌<◌, ◌≤◌, Bool, true, false, cond, List, [], ◌∷◌, ◌++◌, take, drop, refl, sym, ap, subst, ◌∙◌, arith}
use Rattle.std.specs.Prelude.{◌==◌}
use Rattle.std.specs.List.{AllByRecursion, prefix_len}
use Rattle.std.proofs.lemmas.Bool.{eqb-true, eqb-false}
use Rattle.replica.specs.Rising.{by_number}
use Rattle.replica.specs.Order.{Rises}
use Rattle.replica.proofs.Groups.{by_number_group, all_implied}

module _ {X : Type 0} (number : X → ℕ) where
  abbrev pub has : ℕ → X → Bool
  has n x = number x == n

  -- how many stand in front that have a number
  abbrev pub front_len : ℕ → List X → ℕ
  front_len n xs = prefix_len (has n) xs

  pub record IsFront (n : ℕ) (xs front back : List X) : Type 0 where
    pub parts : xs ≡ front ++ back
    pub same : AllByRecursion (λ y. number y ≡ n) front
    pub above : AllByRecursion (λ y. n < number y) back
    pub rises : Rises number back

  front_from : (n : ℕ) (xs : List X) → Rises number xs → AllByRecursion (λ y. n ≤ number y) xs → IsFront n xs (take (front_len n xs) xs) (drop (front_len n xs) xs)
  front_from n [] up low = record { parts = refl; same = tt; above = tt; rises = tt }
  front_from n (x ∷ xs) up low = go (has n x) refl (front_from n xs up.1 low.1)
    where
      go : (b : Bool) → has n x ≡ b → IsFront n xs (take (front_len n xs) xs) (drop (front_len n xs) xs)
          → IsFront n (x ∷ xs) (take (cond b (1 + front_len n xs) 0) (x ∷ xs)) (drop (cond b (1 + front_len n xs) 0) (x ∷ xs))
      go true is later =
          let one : suc (front_len n xs) ≡ 1 + front_len n xs = omega arith in
          subst (λ (k : ℕ). IsFront n (x ∷ xs) (take k (x ∷ xs)) (drop k (x ∷ xs))) one (record {
            parts = ap (λ l. x ∷ l) later.parts;
            same = (eqb-true (number x) n is, later.same);
            above = later.above;
            rises = later.rises;
          })
      go false is later =
          let other = eqb-false (number x) n is in
          let least : n ≤ number x = low.0 in
          let more : n < number x = omega arith in
          record {
            parts = refl;
            same = tt;
            above = (more, all_implied number (λ y. number x ≤ number y) (λ y. n < number y) xs (λ y (h : number x ≤ number y). omega arith) up.0);
            rises = up;
          }

  -- the elements in front of the first one's number
  pub first_front : (x : X) (xs : List X) → Rises number (x ∷ xs) → IsFront (number x) (x ∷ xs) (take (front_len (number x) (x ∷ xs)) (x ∷ xs)) (drop (front_len (number x) (x ∷ xs)) (x ∷ xs))
  first_front x xs up = front_from (number x) (x ∷ xs) up (omega arith, up.0)

  front_some : (n : ℕ) (x : X) (xs front back : List X) → number x ≡ n → IsFront n (x ∷ xs) front back → (others : List X) × (front ≡ x ∷ others)
  front_some n x xs [] back is h =
      let alike : AllByRecursion (λ y. n < number y) (x ∷ xs) = subst (λ (l : List X). AllByRecursion (λ y. n < number y) l) (sym h.parts) h.above in
      absurd (omega (arith, alike.0, is))
  front_some n x xs (y ∷ ys) back is h =
      let head : x ≡ y = cc (h.parts) in
      (ys, ap (λ (z : X). z ∷ ys) (sym head))

  -- what there is for the first number stands in front
  pub by_number_front : (part : ℕ → List X → List ℕ) (n : ℕ) (x : X) (xs front back : List X) → number x ≡ n → IsFront n (x ∷ xs) front back
      → by_number number part (x ∷ xs) ≡ part n front ++ by_number number part back
  by_number_front part n x xs front back is h =
      let some = front_some n x xs front back is h in
      let same : AllByRecursion (λ y. number y ≡ n) (x ∷ some.0) = subst (λ (l : List X). AllByRecursion (λ y. number y ≡ n) l) some.1 h.same in
      ap (by_number number part) (h.parts ∙ ap (λ (l : List X). l ++ back) some.1)
      ∙ by_number_group number part n x some.0 back is same.1 h.above
      ∙ ap (λ (l : List X). part n l ++ by_number number part back) (sym some.1)
