-- When two threads or more touched an object.
use Rattle.std.proofs.Common.{◌≡◌, ℕ, Bool, true, false, ◌&&◌, ◌||◌, not, List, [], ◌∷◌, length, refl, sym, ap, ◌∙◌, arith}
use Rattle.std.specs.Prelude.{◌==◌, nat_lt, map, Some, None, slice_get}
use Rattle.std.specs.List.{list_any}
use Rattle.std.proofs.lemmas.Bool.{false≢true, eqb-true, eqb-false, eq-eqb, lt-ltb}
use Rattle.replica.specs.declared.touch.ObjectTouch.{ObjectTouch}
use Rattle.replica.specs.Rising.{put_in, rising}
use Rattle.replica.specs.Versions.{is_write}
use Rattle.replica.specs.Chosen.{is_shared}
use Rattle.replica.proofs.Numbers.{member, member_rising, put_again}
use Rattle.replica.proofs.Agree.{any_map}

abbrev has_other : ℕ → List ℕ → Bool
has_other n ms = list_any (λ m. not (m == n)) ms

one_number : (n : ℕ) (ms : List ℕ) → has_other n ms ≡ false → rising (n ∷ ms) ≡ n ∷ []
one_number n [] none = refl
one_number n (m ∷ ms) none = go (m == n) refl none (one_number n ms)
  where
    go : (b : Bool) → (m == n) ≡ b → (not b || has_other n ms) ≡ false → (has_other n ms ≡ false → rising (n ∷ ms) ≡ n ∷ []) → put_in n (put_in m (rising ms)) ≡ n ∷ []
    go true is none rest = ap (λ (k : ℕ). put_in n (put_in k (rising ms))) (eqb-true m n is) ∙ ap (put_in n) (rest none) ∙ put_again n []
    go false is none rest = absurd (false≢true (sym none))

some_other : (n : ℕ) (ms : List ℕ) → has_other n ms ≡ true → (m : ℕ) × (member m ms ≡ true) × ((m == n) ≡ false)
some_other n [] some = absurd (false≢true some)
some_other n (m ∷ ms) some = go (m == n) refl some (some_other n ms)
  where
    or_true : (b : Bool) → (b || true) ≡ true
    or_true true = refl
    or_true false = refl

    go : (b : Bool) → (m == n) ≡ b → (not b || has_other n ms) ≡ true → (has_other n ms ≡ true → (k : ℕ) × (member k ms ≡ true) × ((k == n) ≡ false)) → (k : ℕ) × (member k (m ∷ ms) ≡ true) × ((k == n) ≡ false)
    go true is some rest = let r = rest some in (r.0, ap (λ (b : Bool). (m == r.0) || b) r.1 ∙ or_true (m == r.0), r.2)
    go false is some rest = (m, ap (λ (b : Bool). b || member m ms) (eq-eqb m m refl), is)

two_of : (n m : ℕ) (ns : List ℕ) → member n ns ≡ true → member m ns ≡ true → (m == n) ≡ false → nat_lt 1 (length ns) ≡ true
two_of n m [] one other apart = absurd (false≢true one)
two_of n m (k ∷ []) one other apart = absurd (eqb-false m n apart (sym (only k m other) ∙ only k n one))
  where
    only : (j q : ℕ) → ((j == q) || false) ≡ true → j ≡ q
    only j q h = eqb-true j q (sym (or_false (j == q)) ∙ h)
      where
        or_false : (b : Bool) → (b || false) ≡ b
        or_false true = refl
        or_false false = refl
two_of n m (j ∷ k ∷ ns) one other apart = lt-ltb 1 (length (j ∷ k ∷ ns)) (omega arith)

two_numbers : (n : ℕ) (ms : List ℕ) → nat_lt 1 (length (rising (n ∷ ms))) ≡ has_other n (n ∷ ms)
two_numbers n ms = go (has_other n ms) refl ∙ sym (ap (λ (b : Bool). not b || has_other n ms) itself)
  where
    itself : (n == n) ≡ true
    itself = eq-eqb n n refl

    or_true : (b : Bool) → (b || true) ≡ true
    or_true true = refl
    or_true false = refl

    go : (b : Bool) → has_other n ms ≡ b → nat_lt 1 (length (rising (n ∷ ms))) ≡ has_other n ms
    go false is = ap (λ (l : List ℕ). nat_lt 1 (length l)) (one_number n ms is) ∙ sym is
    go true is =
        let other = some_other n ms is in
        let first : member n (rising (n ∷ ms)) ≡ true = member_rising n (n ∷ ms) ∙ ap (λ (b : Bool). b || member n ms) itself in
        let second : member other.0 (rising (n ∷ ms)) ≡ true = member_rising other.0 (n ∷ ms) ∙ ap (λ (b : Bool). (n == other.0) || b) other.1 ∙ or_true (n == other.0) in
        two_of n other.0 (rising (n ∷ ms)) first second other.2 ∙ sym is

pub shared_by : (ts : List ObjectTouch) (first : ObjectTouch) → slice_get ts 0 ≡ Some first → is_shared ts ≡ (list_any (λ t. not (t.thread == first.thread)) ts && list_any is_write ts)
shared_by [] first is = cc
shared_by (t ∷ ts) first is =
    let head : t ≡ first = cc in
    let n = t.thread in
    ap (λ (b : Bool). b && list_any is_write (t ∷ ts)) (two_numbers n (map (λ u. u.thread) ts) ∙ any_map (λ m. not (m == n)) (λ u. u.thread) (t ∷ ts))
    ∙ ap (λ (u : ObjectTouch). list_any (λ v. not (v.thread == u.thread)) (t ∷ ts) && list_any is_write (t ∷ ts)) head

pub shared_none : (ts : List ObjectTouch) → slice_get ts 0 ≡ None → is_shared ts ≡ false
shared_none [] is = refl
shared_none (t ∷ ts) is = cc
