-- Where a version was written first, by the order that the map of versions keeps.
use Rattle.std.proofs.Common.{◌≡◌, ℕ, Bool, true, false, cond, ◌&&◌, List, [], ◌∷◌, ◌++◌, Option, None, Some, refl, sym, ap, ◌∙◌, arith}
use Rattle.std.specs.Prelude.{◌==◌}
use Rattle.std.specs.Ordering.{nat_cmp, ordering_then}
use Rattle.std.specs.Option.{option_or}
use Rattle.std.specs.BTreeMap.{is_at}
use Rattle.std.specs.declared.cmp.Ordering.{Ordering}
use Rattle.std.proofs.lemmas.Bool.Decides.{nat_tests}
use Rattle.replica.specs.declared.diverging.EventAt.{EventAt}
use Rattle.replica.specs.declared.writes.WriteAt.{WriteAt}
use Rattle.replica.specs.declared.writes.Written.{Written}
use Rattle.replica.specs.Divergence.{first_of}

-- the derived order of versions of objects
abbrev pub written_cmp : Written → Written → Ordering
written_cmp x y = ordering_then (nat_cmp x.object y.object) (nat_cmp x.version y.version)

-- the test of `first_of`
abbrev is_same : Written → Written → Bool
is_same x y = x.object == y.object && x.version == y.version

-- numbers that are equal, two by two
both : (a b x y : ℕ) → (a == x && b == y) ≡ true → (a ≡ x) × (b ≡ y)
both a b x y h = (grind (arith, nat_tests), grind (arith, nat_tests))

ordered_same : (a b x y : ℕ) → is_at (λ (n : ℕ). ordering_then (nat_cmp a x) (nat_cmp b n)) y ≡ (a == x && b == y)
ordered_same a b x y = grind (arith, nat_tests)

same_written : (x w : Written) → is_same x w ≡ true → w ≡ x
same_written x w h =
    let parts = both x.object x.version w.object w.version h in
    let made : ℕ → ℕ → Written = λ (n m : ℕ). record { object = n; version = m } in
    sym (ap (λ (n : ℕ). made n x.version) parts.0 ∙ ap (λ (m : ℕ). made w.object m) parts.1)

-- one write more
first_push : (xs : List WriteAt) (x : WriteAt) (w : Written) → first_of (xs ++ x ∷ []) w ≡ option_or (first_of xs w) (cond (is_same x.written w) (Some x.at) None)
first_push [] x w = refl
first_push (y ∷ ys) x w =
    elim (is_same y.written w) as (λ b. cond b (Some y.at) (first_of (ys ++ x ∷ []) w) ≡ option_or (cond b (Some y.at) (first_of ys w)) (cond (is_same x.written w) (Some x.at) None)) [ true ↦ refl | false ↦ first_push ys x w ]

or_none : (o : Option EventAt) → option_or o None ≡ o
or_none None = refl
or_none (Some a) = refl

-- a write of a version that was written
pub first_kept : (xs : List WriteAt) (x : WriteAt) (a : EventAt) (w : Written) → first_of xs x.written ≡ Some a → first_of (xs ++ x ∷ []) w ≡ first_of xs w
first_kept xs x a w h = first_push xs x w ∙ go (is_same x.written w) refl
  where
    go : (b : Bool) → is_same x.written w ≡ b → option_or (first_of xs w) (cond b (Some x.at) None) ≡ first_of xs w
    go true same = let found : first_of xs w ≡ Some a = ap (λ (v : Written). first_of xs v) (same_written x.written w same) ∙ h in rw found refl
    go false apart = or_none (first_of xs w)

-- a write of a version that was not written
pub first_added : (xs : List WriteAt) (x : WriteAt) (w : Written) → first_of xs x.written ≡ None → cond (is_at (written_cmp x.written) w) (Some x.at) (first_of xs w) ≡ first_of (xs ++ x ∷ []) w
first_added xs x w h = ap (λ (b : Bool). cond b (Some x.at) (first_of xs w)) (ordered_same x.written.object x.written.version w.object w.version) ∙ go (is_same x.written w) refl ∙ sym (first_push xs x w)
  where
    go : (b : Bool) → is_same x.written w ≡ b → cond b (Some x.at) (first_of xs w) ≡ option_or (first_of xs w) (cond b (Some x.at) None)
    go true same = let none : first_of xs w ≡ None = ap (λ (v : Written). first_of xs v) (same_written x.written w same) ∙ h in rw none refl
    go false apart = sym (or_none (first_of xs w))
