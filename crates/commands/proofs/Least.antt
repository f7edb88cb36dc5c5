-- What is found of numbers, number by number and part by part.
use Rattle.std.proofs.Common.{◌≡◌, ◌+◌, ◌-◌, ℕ, zero, suc, Bool, true, false, cond, List, ◌++◌, sym, ap, ◌∙◌, subst, arith, inl, inr, append_assoc}
use Rattle.std.specs.Prelude.{Option, Some, None, is_none, Result, Ok, Err, IfOk}
use Rattle.std.proofs.lemmas.Bool.{cases_lt}
use Rattle.std.proofs.lemmas.List.{append-nil}
use Rattle.commands.specs.Least.{NoneIsCaught, IsLeastCaught, AreListed}

module _ (Comes : ℕ → Bool → Type 0) where
  -- none yet
  pub none_caught : (from : ℕ) → IsLeastCaught Comes from 0 None
  none_caught from k h = absurd (omega (arith, h))

  none_behind : (from count more : ℕ) → NoneIsCaught Comes from count → NoneIsCaught Comes (from + count) more → NoneIsCaught Comes from (count + more)
  none_behind from count more x y k h =
      elim (cases_lt k count) [
        | inl before ↦ x k before
        | inr behind ↦ subst (λ n. Comes n false) (omega (arith, behind)) (y (k - count) (omega (arith, h, behind)))
      ]

  -- behind numbers of which none is caught
  pub least_behind : (from count more : ℕ) (found : Option ℕ) → IsLeastCaught Comes from count None → IsLeastCaught Comes (from + count) more found → IsLeastCaught Comes from (count + more) found
  least_behind from count more None x y = none_behind from count more x y
  least_behind from count more (Some number) x y =
      let few = y.1 in
      let is = y.2 in
      (count + y.0, omega (arith, few), omega (arith, is), none_behind from count y.0 x y.3, y.4)

  -- numbers behind one that is caught add nothing
  pub least_stays : (from count more number : ℕ) → IsLeastCaught Comes from count (Some number) → IsLeastCaught Comes from (count + more) (Some number)
  least_stays from count more number x = let few = x.1 in (x.0, omega (arith, few), x.2, x.3, x.4)

  pub stays_or_adds : (from count more : ℕ) (found : Option ℕ) → is_none found ≡ false → IsLeastCaught Comes from count found → IsLeastCaught Comes from (count + more) found
  stays_or_adds from count more None some x = absurd cc
  stays_or_adds from count more (Some number) some x = least_stays from count more number x

  one_least : (number : ℕ) (caught : Bool) → Comes number caught → IsLeastCaught Comes number 1 (cond caught (Some number) None)
  one_least number true c = (0, omega arith, omega arith, (λ k h. absurd (omega (arith, h))), c)
  one_least number false c = λ k h. subst (λ n. Comes n false) (omega (arith, h)) c

  -- one number more
  pub least_add : (from count number : ℕ) (caught : Bool) → number ≡ from + count → IsLeastCaught Comes from count None → Comes number caught → IsLeastCaught Comes from (count + 1) (cond caught (Some number) None)
  least_add from count number caught is x c = least_behind from count 1 (cond caught (Some number) None) x (subst (λ n. IsLeastCaught Comes n 1 (cond caught (Some number) None)) is (one_least number caught c))

module _ (IsLine : ℕ → List ℕ → Type 0) where
  -- one line more
  pub listed_add : (from count number : ℕ) (before line text : List ℕ) → number ≡ from + count → AreListed IsLine from count before → IsLine number line → text ≡ before ++ line → AreListed IsLine from (count + 1) text
  listed_add from count number before line text is x l same =
      subst (λ n. AreListed IsLine from n text) {x = suc count} (omega arith) (before, line, x, subst (λ n. IsLine n line) is l, same)

  -- the lines of the numbers behind
  pub listed_join : (from count more : ℕ) (before behind : List ℕ) → AreListed IsLine from count before → AreListed IsLine (from + count) more behind → AreListed IsLine from (count + more) (before ++ behind)
  listed_join from count zero before behind x y =
      subst (λ n. AreListed IsLine from n (before ++ behind)) {x = count} (omega arith) (subst (AreListed IsLine from count) (sym (ap (λ l. before ++ l) y ∙ append-nil before)) x)
  listed_join from count (suc more) before behind x y =
      let rest = listed_join from count more before y.0 x y.2 in
      subst (λ n. AreListed IsLine from n (before ++ behind)) {x = suc (count + more)} (omega arith) (before ++ y.0, y.1, rest, subst (λ n. IsLine n y.1) (omega arith) y.3, ap (λ l. before ++ l) y.4 ∙ sym (append_assoc before y.0 y.1))

-- two clauses of one value
pub both_ok : {T E : Type 0} {P Q R : T → Type 0} (r : Result T E) → IfOk r P → IfOk r Q → ((x : T) → P x → Q x → R x) → IfOk r R
both_ok (Ok x) p q f = f x p q
both_ok (Err e) p q f = tt
