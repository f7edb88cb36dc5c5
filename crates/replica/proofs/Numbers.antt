-- The numbers of a list, each once, by rising value.
use Rattle.std.proofs.Common.{◌≡◌, ℕ, ◌<◌, ◌≤◌, Bool, true, false, cond, ◌||◌, List, [], ◌∷◌, refl, sym, ap, subst, ◌∙◌, arith, inl, inr}
use Rattle.std.specs.Prelude.{◌==◌, nat_lt}
use Rattle.std.specs.List.{AllByRecursion, list_any}
use Rattle.std.proofs.lemmas.Bool.{false≢true, eqb-true, eqb-false, ltb-true, ltb-false, ne_eqb, eq-eqb, lt-ltb, le-ltb, cases_order}
use Rattle.replica.specs.Rising.{put_in, rising}

abbrev pub member : ℕ → List ℕ → Bool
member q ns = list_any (λ n. n == q) ns

or_same : (a b : Bool) → (a || b) ≡ (a || (a || b))
or_same true b = refl
or_same false b = refl

or_swap : (a b c : Bool) → (a || (b || c)) ≡ (b || (a || c))
or_swap true true c = refl
or_swap true false c = refl
or_swap false b c = refl

-- ---- what a number that is put in changes

member_put : (q n : ℕ) (ms : List ℕ) → member q (put_in n ms) ≡ ((n == q) || member q ms)
member_put q n [] = refl
member_put q n (m ∷ ms) = go (nat_lt n m) (n == m) refl (member_put q n ms)
  where
    go : (a b : Bool) → (n == m) ≡ b → member q (put_in n ms) ≡ ((n == q) || member q ms)
        → member q (cond a (n ∷ m ∷ ms) (cond b (m ∷ ms) (m ∷ put_in n ms))) ≡ ((n == q) || ((m == q) || member q ms))
    go true b is rest = refl
    go false true is rest = or_same (m == q) (member q ms) ∙ ap (λ (k : ℕ). (k == q) || ((m == q) || member q ms)) (sym (eqb-true n m is))
    go false false is rest = ap (λ (r : Bool). (m == q) || r) rest ∙ or_swap (m == q) (n == q) (member q ms)

pub all_put : (P : ℕ → Type 0) (n : ℕ) (ms : List ℕ) → P n → AllByRecursion P ms → AllByRecursion P (put_in n ms)
all_put P n [] p h = (p, tt)
all_put P n (m ∷ ms) p h = go (nat_lt n m) (n == m) (all_put P n ms p h.1)
  where
    go : (a b : Bool) → AllByRecursion P (put_in n ms) → AllByRecursion P (cond a (n ∷ m ∷ ms) (cond b (m ∷ ms) (m ∷ put_in n ms)))
    go true b rest = (p, h)
    go false true rest = h
    go false false rest = (h.0, rest)

all_weaker : {X : Type 0} (P Q : X → Type 0) (xs : List X) → ((x : X) → P x → Q x) → AllByRecursion P xs → AllByRecursion Q xs
all_weaker P Q [] f h = tt
all_weaker P Q (x ∷ xs) f h = (f x h.0, all_weaker P Q xs f h.1)

abbrev Strict : List ℕ → Type 0
Strict [] = Unit {0}
Strict (n ∷ ns) = AllByRecursion (λ m. n < m) ns × Strict ns

strict_put : (n : ℕ) (ms : List ℕ) → Strict ms → Strict (put_in n ms)
strict_put n [] h = (tt, tt)
strict_put n (m ∷ ms) h = go (nat_lt n m) (n == m) refl refl (strict_put n ms h.1)
  where
    go : (a b : Bool) → nat_lt n m ≡ a → (n == m) ≡ b → Strict (put_in n ms) → Strict (cond a (n ∷ m ∷ ms) (cond b (m ∷ ms) (m ∷ put_in n ms)))
    go true b lt is rest =
        let below : n < m = ltb-true n m lt in
        ((below, all_weaker (λ k. m < k) (λ k. n < k) ms (λ k (more : m < k). omega arith) h.0), h)
    go false true lt is rest = h
    go false false lt is rest =
        let least : m ≤ n = ltb-false n m lt in
        let other = eqb-false n m is in
        let above : m < n = omega arith in
        (all_put (λ k. m < k) n ms above h.0, rest)

-- ---- the numbers of a list

pub member_rising : (q : ℕ) (ns : List ℕ) → member q (rising ns) ≡ member q ns
member_rising q [] = refl
member_rising q (n ∷ ns) = member_put q n (rising ns) ∙ ap (λ (r : Bool). (n == q) || r) (member_rising q ns)

pub all_rising : (P : ℕ → Type 0) (ns : List ℕ) → AllByRecursion P ns → AllByRecursion P (rising ns)
all_rising P [] h = tt
all_rising P (n ∷ ns) h = all_put P n (rising ns) h.0 (all_rising P ns h.1)

strict_rising : (ns : List ℕ) → Strict (rising ns)
strict_rising [] = tt
strict_rising (n ∷ ns) = strict_put n (rising ns) (strict_rising ns)

none_above : (q : ℕ) (ns : List ℕ) → AllByRecursion (λ n. q < n) ns → member q ns ≡ false
none_above q [] h = refl
none_above q (n ∷ ns) h =
    let other : (n == q) ≡ false = ne_eqb n q (λ is. absurd (omega (arith, h.0))) in
    ap (λ (b : Bool). b || member q ns) other ∙ none_above q ns h.1

itself : (n : ℕ) → (n == n) ≡ true
itself n = eq-eqb n n refl

first_member : (n : ℕ) (ns : List ℕ) → member n (n ∷ ns) ≡ true
first_member n ns = ap (λ (b : Bool). b || member n ns) (itself n)

-- lists that rise and have the same members
same_strict : (ms ns : List ℕ) → Strict ms → Strict ns → ((q : ℕ) → member q ms ≡ member q ns) → ms ≡ ns
same_strict [] [] g h same = refl
same_strict [] (n ∷ ns) g h same = absurd (false≢true (same n ∙ first_member n ns))
same_strict (m ∷ ms) [] g h same = absurd (false≢true (sym (same m) ∙ first_member m ms))
same_strict (m ∷ ms) (n ∷ ns) g h same = cc (heads, same_strict ms ns g.1 h.1 tails)
  where
    smaller : (a b : ℕ) (us vs : List ℕ) → a < b → AllByRecursion (λ k. b < k) vs → member a (a ∷ us) ≡ member a (b ∷ vs) → ⊥
    smaller a b us vs lt above is = false≢true (sym (none_above a (b ∷ vs) (lt, all_weaker (λ k. b < k) (λ k. a < k) vs (λ k (more : b < k). omega arith) above)) ∙ sym is ∙ first_member a us)

    heads : m ≡ n
    heads = elim (cases_order m n) [
      | inl is ↦ is
      | inr other ↦ elim other [
        | inl lt ↦ absurd (smaller m n ms ns lt h.0 (same m))
        | inr lt ↦ absurd (smaller n m ns ms lt g.0 (sym (same n)))
      ]
    ]

    tails : (q : ℕ) → member q ms ≡ member q ns
    tails q = go (m == q) refl
      where
        go : (b : Bool) → (m == q) ≡ b → member q ms ≡ member q ns
        go true is =
            let low : AllByRecursion (λ k. q < k) ms = subst (λ (j : ℕ). AllByRecursion (λ k. j < k) ms) (eqb-true m q is) g.0 in
            let low_too : AllByRecursion (λ k. q < k) ns = subst (λ (j : ℕ). AllByRecursion (λ k. j < k) ns) (sym heads ∙ eqb-true m q is) h.0 in
            none_above q ms low ∙ sym (none_above q ns low_too)
        go false is =
            let is_too : (n == q) ≡ false = ap (λ (k : ℕ). k == q) (sym heads) ∙ is in
            sym (ap (λ (b : Bool). b || member q ms) is) ∙ same q ∙ ap (λ (b : Bool). b || member q ns) is_too

-- lists of the same numbers
pub rising_agree : (ms ns : List ℕ) → ((q : ℕ) → member q ms ≡ member q ns) → rising ms ≡ rising ns
rising_agree ms ns same = same_strict (rising ms) (rising ns) (strict_rising ms) (strict_rising ns) (λ q. member_rising q ms ∙ same q ∙ sym (member_rising q ns))

-- ---- a number that none is below

pub put_least : (n : ℕ) (ms : List ℕ) → AllByRecursion (λ m. n < m) ms → put_in n ms ≡ n ∷ ms
put_least n [] h = refl
put_least n (m ∷ ms) h = ap (λ (b : Bool). cond b (n ∷ m ∷ ms) (cond (n == m) (m ∷ ms) (m ∷ put_in n ms))) (lt-ltb n m h.0)

pub put_again : (n : ℕ) (ms : List ℕ) → put_in n (n ∷ ms) ≡ n ∷ ms
put_again n ms =
    ap (λ (b : Bool). cond b (n ∷ n ∷ ms) (cond (n == n) (n ∷ ms) (n ∷ put_in n ms))) (le-ltb n n (omega arith))
    ∙ ap (λ (b : Bool). cond b (n ∷ ms) (n ∷ put_in n ms)) (itself n)
