-- Claims by rising place are told apart place by place.
use Rattle.std.proofs.Common.{◌≡◌, ℕ, suc, ◌<◌, ◌≤◌, Bool, true, false, List, [], ◌∷◌, Some, None, refl, sym, ap, subst, ◌∙◌, arith, inl, inr}
use Rattle.std.specs.List.{AllByRecursion}
use Rattle.std.specs.List.Sorted.{IsStrictlySortedBy}
use Rattle.std.specs.Map.{keys_of}
use Rattle.std.specs.BTreeMap.{is_at}
use Rattle.std.specs.Ordering.{nat_cmp, MatchOrdering}
use Rattle.std.specs.declared.cmp.Ordering.TheVariants.{Less}
use Rattle.std.proofs.lemmas.Cmp.{ranked}
use Rattle.std.proofs.lemmas.Bool.{cases_lt, cases_order}
use Rattle.std.proofs.lemmas.Map.Keys.{sorted_head, sorted_tail}
use Rattle.log_pieces.specs.declared.flat.Flat.{Flat}
use Rattle.log_pieces.specs.Keyed.{value_at}
use Rattle.log_pieces.specs.Pages.{AreJoined}

less : (x y : ℕ) → nat_cmp x y ≡ Less → x < y
less x y h = let r : MatchOrdering Less (x < y) (x ≡ y) (y < x) = ranked x y Less (sym h) in r

before_place : (x y : ℕ) → x < y → is_at (nat_cmp x) y ≡ false
before_place x y l = grind arith

after_place : (x y : ℕ) → y < x → is_at (nat_cmp x) y ≡ false
after_place x y l = grind arith

at_place : (x : ℕ) → is_at (nat_cmp x) x ≡ true
at_place x = grind arith

module _ {X : Type 0} where
  -- the places rise, from n at least
  abbrev Rises : ℕ → List (ℕ × X) → Type 0
  Rises n [] = Unit {0}
  Rises n (e ∷ es) = (n ≤ e.0) × Rises (suc e.0) es

  above : (n : ℕ) (es : List (ℕ × X)) → AllByRecursion (λ y. nat_cmp n y ≡ Less) (keys_of es) → IsStrictlySortedBy nat_cmp (keys_of es) → Rises (suc n) es
  above n [] h s = tt
  above n (e ∷ es) h s = (let lt = less n e.0 h.0 in omega arith, above e.0 es (sorted_head nat_cmp e.0 (keys_of es) s) (sorted_tail nat_cmp e.0 (keys_of es) s))

  rises : (es : List (ℕ × X)) → IsStrictlySortedBy nat_cmp (keys_of es) → Rises 0 es
  rises [] s = tt
  rises (e ∷ es) s = (omega arith, above e.0 es (sorted_head nat_cmp e.0 (keys_of es) s) (sorted_tail nat_cmp e.0 (keys_of es) s))

  nothing_at : (n q : ℕ) (es : List (ℕ × X)) → Rises n es → q < n → value_at nat_cmp es q ≡ None
  nothing_at n q [] r lt = refl
  nothing_at n q (e ∷ es) r lt = let first = r.0 in rw (before_place q e.0 (omega arith), nothing_at (suc e.0) q es r.1 (omega arith)) refl

  here : (e : ℕ × X) (es : List (ℕ × X)) → value_at nat_cmp (e ∷ es) e.0 ≡ Some e.1
  here e es = rw (at_place e.0) refl

  later : (e : ℕ × X) (es : List (ℕ × X)) (q : ℕ) → e.0 < q → value_at nat_cmp (e ∷ es) q ≡ value_at nat_cmp es q
  later e es q lt = rw (after_place q e.0 lt) refl

  abbrev SameItems : List (ℕ × X) → List (ℕ × X) → Type 0
  SameItems xs ys = (q : ℕ) → value_at nat_cmp xs q ≡ value_at nat_cmp ys q

  -- an item that only one of two lists has
  only : {A : Type 0} (x : ℕ × X) (xs ys : List (ℕ × X)) → Rises (suc x.0) ys → SameItems (x ∷ xs) ys → A
  only x xs ys r same = absurd (let bad : Some x.1 ≡ None = sym (here x xs) ∙ same x.0 ∙ nothing_at (suc x.0) x.0 ys r (omega arith) in cc)

  rises_from : (n m : ℕ) (e : ℕ × X) (es : List (ℕ × X)) → Rises n (e ∷ es) → m ≤ e.0 → Rises m (e ∷ es)
  rises_from n m e es r le = (le, r.1)

  -- behind the same first item stand the same items
  behind : (x y : ℕ × X) (xs ys : List (ℕ × X)) → x.0 ≡ y.0 → Rises (suc x.0) xs → Rises (suc x.0) ys → SameItems (x ∷ xs) (y ∷ ys) → SameItems xs ys
  behind x y xs ys place rx ry same q = elim (cases_lt x.0 q) [
    | inl past ↦ sym (later x xs q past) ∙ same q ∙ later y ys q (omega arith)
    | inr before ↦ nothing_at (suc x.0) q xs rx (omega arith) ∙ sym (nothing_at (suc x.0) q ys ry (omega arith))
  ]

  same_entries : (n : ℕ) (xs ys : List (ℕ × X)) → Rises n xs → Rises n ys → SameItems xs ys → xs ≡ ys
  same_entries n [] [] rx ry same = refl
  same_entries n [] (y ∷ ys) rx ry same = only y ys [] tt (λ q. sym (same q))
  same_entries n (x ∷ xs) [] rx ry same = only x xs [] tt same
  same_entries n (x ∷ xs) (y ∷ ys) rx ry same = elim (cases_order x.0 y.0) [
    | inr other ↦ elim other [
      | inl before ↦ only x xs (y ∷ ys) (rises_from n (suc x.0) y ys ry (omega arith)) same
      | inr after ↦ only y ys (x ∷ xs) (rises_from n (suc y.0) x xs rx (omega arith)) (λ q. sym (same q))
    ]
    | inl place ↦
        let item : x.1 ≡ y.1 = (let both : Some x.1 ≡ Some y.1 = sym (here x xs) ∙ same x.0 ∙ subst (λ (q : ℕ). value_at nat_cmp (y ∷ ys) q ≡ Some y.1) (sym place) (here y ys) in cc) in
        let ry1 : Rises (suc x.0) ys = subst (λ (k : ℕ). Rises (suc k) ys) (sym place) ry.1 in
        let rest = same_entries (suc x.0) xs ys rx.1 ry1 (behind x y xs ys place rx.1 ry1 same) in
        let first : x ≡ y = ap (λ (p : ℕ). (p, x.1)) place ∙ ap (λ (i : X). (y.0, i)) item in
        ap (λ (z : ℕ × X). z ∷ xs) first ∙ ap (λ (l : List (ℕ × X)). y ∷ l) rest
  ]

-- claims joined to no claims are those claims
pub joined_to_none : {T : Type 0} (eq : T → T → Bool) (more new : List (ℕ × Flat T)) → IsStrictlySortedBy nat_cmp (keys_of more) → IsStrictlySortedBy nat_cmp (keys_of new) → AreJoined eq [] more new → new ≡ more
joined_to_none eq more new sm sn joined = same_entries 0 new more (rises new sn) (rises more sm) (λ q. joined q)
