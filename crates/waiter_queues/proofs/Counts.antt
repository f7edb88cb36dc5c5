-- How often a number stands in lists, and that few different numbers are few.
use Rattle.std.proofs.Common.{◌≡◌, ℕ, ◌+◌, ◌<◌, ◌≤◌, ◌≢◌, inl, inr, Bool, true, false, cond, ◌==◌, ◌||◌, List, [], ◌∷◌, ◌++◌, length, map, refl, sym, ap, ◌∙◌, arith}
use Rattle.std.specs.List.{IsDistinct, AllByRecursion, filter, list_any}
use Rattle.std.proofs.lemmas.Bool.Decides.{Decides-eqb}
use Rattle.std.proofs.lemmas.Bool.{cases_Bool, cases_lt}
use Rattle.std.proofs.lemmas.Map.Steps.{length-le_from_distinct_below}
use lib.Dec.{eqb}
use Rattle.waiter_queues.specs.Kept.{times}

times_first : (b c : Bool) (n : ℕ) → (b || c) ≡ false → (c ≡ false → n ≡ 0) → cond b 1 0 + n ≡ 0
times_first true c n h rest = absurd (cc)
times_first false c n h rest = let z : n ≡ 0 = rest h in omega (arith, z)

pub times_none : {X : Type 0} (p : X → Bool) (xs : List X) → list_any p xs ≡ false → times p xs ≡ 0
times_none p [] h = refl
times_none p (x ∷ xs) h = times_first (p x) (list_any p xs) (times p xs) h (λ no. times_none p xs no)

filter_first : {X : Type 0} (p : X → Bool) (x : X) (ys : List X) (n : ℕ) (b : Bool) → times p ys ≤ n → times p (cond b (x ∷ ys) ys) ≤ cond (p x) 1 0 + n
filter_first p x ys n true h = omega (arith, h)
filter_first p x ys n false h = omega (arith, h)

pub times_filter : {X : Type 0} (p r : X → Bool) (xs : List X) → times p (filter r xs) ≤ times p xs
times_filter p r [] = omega arith
times_filter p r (x ∷ xs) = filter_first p x (filter r xs) (times p xs) (r x) (times_filter p r xs)

pub times_map : {X Y : Type 0} (f : X → Y) (p : Y → Bool) (xs : List X) → times p (map f xs) ≡ times (λ x. p (f x)) xs
times_map f p [] = refl
times_map f p (x ∷ xs) = ap (λ n. cond (p (f x)) 1 0 + n) (times_map f p xs)

pub times_append : {X : Type 0} (p : X → Bool) (xs ys : List X) → times p (xs ++ ys) ≡ times p xs + times p ys
times_append p [] ys = omega arith
times_append p (x ∷ xs) ys = let rest = times_append p xs ys in omega (arith, rest)

zero_of_one : (m n : ℕ) → m + n ≤ 1 → m ≡ 1 → n ≡ 0
zero_of_one m n h e = omega arith

same_yes : (x : ℕ) → (x == x) ≡ true
same_yes x = (Decides-eqb x x).1 refl

pub differ_no : (x y : ℕ) → x ≢ y → (x == y) ≡ false
differ_no x y ne = elim (cases_Bool (x == y)) [ inl e ↦ absurd (ne ((Decides-eqb x y).0 e)) | inr e ↦ e ]

first_differs : (b : Bool) (n : ℕ) → cond b 1 0 + n ≡ 0 → (b ≡ false) × (n ≡ 0)
first_differs true n h = absurd (omega (arith, h))
first_differs false n h = (refl, omega (arith, h))

differ_sym : (x y : ℕ) → (x == y) ≡ false → (y == x) ≡ false
differ_sym x y h = differ_no y x (λ e. absurd (let t : (x == y) ≡ true = (Decides-eqb x y).1 (sym e) in let bad : true ≡ false = sym t ∙ h in cc))

all_differ : (t : ℕ) (xs : List ℕ) → times (λ u. u == t) xs ≡ 0 → AllByRecursion (λ y. eqb t y ≡ false) xs
all_differ t [] h = tt
all_differ t (x ∷ xs) h = let f = first_differs (x == t) (times (λ u. u == t) xs) h in (differ_sym x t f.0, all_differ t xs f.1)

distinct_of : (xs : List ℕ) → ((t : ℕ) → times (λ u. u == t) xs ≤ 1) → IsDistinct eqb xs
unfolding IsDistinct
distinct_of [] h = tt
distinct_of (x ∷ xs) h = (all_differ x xs (zero_of_one (cond (x == x) 1 0) _ (h x) (ap (λ b. cond b 1 0) (same_yes x))), distinct_of xs (λ t. rest t (h t))) where
  rest : (t : ℕ) → cond (x == t) 1 0 + times (λ u. u == t) xs ≤ 1 → times (λ u. u == t) xs ≤ 1
  rest t more = omega (arith, more)

none_any : (t : ℕ) (xs : List ℕ) → AllByRecursion (λ y. eqb t y ≡ false) xs → list_any (eqb t) xs ≡ false
none_any t [] h = refl
none_any t (x ∷ xs) h = ap (λ b. b || list_any (eqb t) xs) h.0 ∙ none_any t xs h.1

-- numbers below n that stand at most once each are at most n
pub few_numbers : (n : ℕ) (xs : List ℕ) → ((t : ℕ) → times (λ u. u == t) xs ≤ 1) → ((t : ℕ) → n ≤ t → times (λ u. u == t) xs ≡ 0) → length xs ≤ n
few_numbers n xs once none = length-le_from_distinct_below xs n (distinct_of xs once) below where
  below : (q : ℕ) → list_any (eqb q) xs ≡ true → q < n
  below q any = elim (cases_lt q n) [ inl lt ↦ lt | inr le ↦ absurd (let no_q : list_any (eqb q) xs ≡ false = none_any q xs (all_differ q xs (none q le)) in let bad : true ≡ false = sym any ∙ no_q in cc) ]
