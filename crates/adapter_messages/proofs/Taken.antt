-- Texts that were taken, whole or by a beginning.
use Rattle.std.proofs.Common.{◌≡◌, ℕ, List, ◌++◌, Result, Ok, Err, OnErr, ◌∙◌, sym, subst}
use Rattle.adapter_messages.proofs.Beginnings.{Begins, begins_first, begins_behind}

pub err_so : {X E P : Type 0} (r : Result X E) → P → OnErr r P
err_so (Ok x) h = _
err_so (Err e) h = h

module _ {S : Type 0} (takes : S → List ℕ → S → Type 0) (more : (s t u : S) (xs ys : List ℕ) → takes s xs t → takes t ys u → takes s (xs ++ ys) u) where
  pub begins_same : (text whole : List ℕ) (s u : S) → text ≡ whole → Begins takes more text s u → Begins takes more whole s u
  begins_same text whole s u is (part, rest, cut, took) = (part, rest, sym is ∙ cut, took)

  -- Three texts, which make a whole.
  module _ (first second third whole : List ℕ) (is : first ++ (second ++ third) ≡ whole) (s : S) where
    pub in_first : (t : S) → Begins takes more first s t → Begins takes more whole s t
    in_first t h = begins_same (first ++ (second ++ third)) whole s t is (begins_first takes more first (second ++ third) s t h)

    pub in_second : (t u : S) → takes s first t → Begins takes more second t u → Begins takes more whole s u
    in_second t u one h = begins_same (first ++ (second ++ third)) whole s u is (begins_behind takes more first (second ++ third) s t u one (begins_first takes more second third t u h))

    pub in_third : (t u v : S) → takes s first t → takes t second u → Begins takes more third u v → Begins takes more whole s v
    in_third t u v one two h = begins_same (first ++ (second ++ third)) whole s v is (begins_behind takes more first (second ++ third) s t v one (begins_behind takes more second third t u v two h))

    pub all_three : (t u v : S) → takes s first t → takes t second u → takes u third v → takes s whole v
    all_three t u v one two three = subst (λ (l : List ℕ). takes s l v) is (more s t v first (second ++ third) one (more t u v second third two three))
