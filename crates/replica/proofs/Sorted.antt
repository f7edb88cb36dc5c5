-- What a stable sort by object and version leaves.
use Rattle.std.proofs.Common.{◌≡◌, ℕ, suc, ◌<◌, ◌≤◌, Bool, false, ◌&&◌, not, List, [], ◌∷◌, ◌++◌, length, get_or, sym, subst, ◌∙◌, arith}
use Rattle.std.specs.Prelude.{◌==◌}
use Rattle.std.specs.declared.cmp.Ordering.{Ordering}
use Rattle.std.specs.Cmp.{IsTotalOrder}
use Rattle.std.specs.Ordering.{nat_cmp, ordering_then, is_lt}
use Rattle.std.specs.List.{AllByRecursion, filter}
use Rattle.std.specs.List.Sorted.{IsPermutation, IsSortedByKey, IsStableByKey, ties}
use Rattle.std.proofs.lemmas.Bool.Decides.{nat_tests}
use Rattle.std.proofs.lemmas.Cmp.{on_total, then_total, nat_cmp_total}
use Rattle.std.proofs.lemmas.List.Elements.{recursion_from_All, filter_agree}
use Rattle.std.proofs.lemmas.List.Sorted.{ranks_by, sorted_far, list_any-IsPermutation}
use Rattle.replica.specs.declared.touch.ObjectTouch.{ObjectTouch}
use Rattle.replica.specs.Touched.{object_of, version_of}
use Rattle.replica.specs.Order.{Rises, IsBehind, IsOrdered, is_of, AreSame}
use Rattle.replica.proofs.Groups.{all_implied}
use Rattle.replica.proofs.Fronts.{IsFront}

abbrev pub key_of : ObjectTouch → ℕ × ℕ
key_of t = (t.object, version_of t)

abbrev pub key_cmp : ℕ × ℕ → ℕ × ℕ → Ordering
key_cmp a b = ordering_then (nat_cmp a.0 b.0) (nat_cmp a.1 b.1)

key_total : IsTotalOrder key_cmp
key_total = then_total (on_total (λ (k : ℕ × ℕ). k.0) nat_cmp_total) (on_total (λ (k : ℕ × ℕ). k.1) nat_cmp_total)

-- ---- the order

not_less : (a b v w : ℕ) → is_lt (ordering_then (nat_cmp b a) (nat_cmp w v)) ≡ false → (a ≤ b) × (a ≡ b → v ≤ w)
not_less a b v w h = (grind (arith, nat_tests), λ (e : a ≡ b). grind (arith, nat_tests))

ordered_from : (ts : List ObjectTouch) → ((i j : ℕ) (d : ObjectTouch) → i ≤ j → j < length ts → IsBehind (get_or ts i d) (get_or ts j d)) → IsOrdered ts
ordered_from [] h = tt
ordered_from (t ∷ ts) h =
    (recursion_from_All (IsBehind t) ts (λ k d lt. h 0 (suc k) d (omega arith) (omega arith)), ordered_from ts (λ i j d le lt. h (suc i) (suc j) d (omega arith) (omega arith)))

pub sorted_ordered : (ts : List ObjectTouch) → IsSortedByKey key_of key_cmp ts → IsOrdered ts
sorted_ordered ts h =
    ordered_from ts (λ i j d le lt. let t = get_or ts i d in let u = get_or ts j d in not_less (object_of t) (object_of u) (version_of t) (version_of u) (sorted_far (λ a b. is_lt (key_cmp (key_of a) (key_of b))) (ranks_by key_total key_of) ts h i j d le lt))

pub objects_rise : (ts : List ObjectTouch) → IsOrdered ts → Rises object_of ts
objects_rise [] h = tt
objects_rise (t ∷ ts) h = (all_implied object_of (IsBehind t) (λ u. object_of t ≤ object_of u) ts (λ u (b : IsBehind t u). b.0) h.0, objects_rise ts h.1)

versions_above : (t : ObjectTouch) (n : ℕ) (ts us : List ObjectTouch) → object_of t ≡ n → AllByRecursion (λ u. object_of u ≡ n) ts → AllByRecursion (IsBehind t) (ts ++ us) → AllByRecursion (λ u. version_of t ≤ version_of u) ts
versions_above t n [] us is same h = tt
versions_above t n (u ∷ ts) us is same h = (h.0.1 (is ∙ sym same.0), versions_above t n ts us is same.1 h.1)

versions_rise : (n : ℕ) (ts us : List ObjectTouch) → AllByRecursion (λ u. object_of u ≡ n) ts → IsOrdered (ts ++ us) → Rises version_of ts
versions_rise n [] us same h = tt
versions_rise n (t ∷ ts) us same h = (versions_above t n ts us same.0 same.1 h.0, versions_rise n ts us same.1 h.1)

ordered_rest : (ts us : List ObjectTouch) → IsOrdered (ts ++ us) → IsOrdered us
ordered_rest [] us h = h
ordered_rest (t ∷ ts) us h = ordered_rest ts us h.1

-- the touches of one object, and those of greater ones
pub front_rises : (n : ℕ) (ts front back : List ObjectTouch) → IsOrdered ts → IsFront object_of n ts front back → Rises version_of front
front_rises n ts front back h parts = versions_rise n front back parts.same (ordered_parts ts front back h parts.parts)
  where
    ordered_parts : (xs ys zs : List ObjectTouch) → IsOrdered xs → xs ≡ ys ++ zs → IsOrdered (ys ++ zs)
    ordered_parts xs ys zs o is = subst IsOrdered is o

pub back_ordered : (n : ℕ) (ts front back : List ObjectTouch) → IsOrdered ts → IsFront object_of n ts front back → IsOrdered back
back_ordered n ts front back h parts = ordered_rest front back (subst IsOrdered parts.parts h)

-- ---- the same touches

same_tie : (a b v w : ℕ) → (not (is_lt (ordering_then (nat_cmp a b) (nat_cmp v w))) && not (is_lt (ordering_then (nat_cmp b a) (nat_cmp w v)))) ≡ (b == a && w == v)
same_tie a b v w = grind (arith, nat_tests)

-- any touch of a version
sample : ℕ → ℕ → ObjectTouch
sample object version = record { object = object; found = version; is_write = false; thread = 0; place = 0 }

pub sorted_same : (ts us : List ObjectTouch) → IsPermutation ts us → IsStableByKey key_of key_cmp ts us → AreSame ts us
unfolding sample
sorted_same ts us moved stable = record {
  any = λ (p : ObjectTouch → Bool). list_any-IsPermutation p ts us moved;
  at = λ (object version : ℕ). sym (of_tie object version ts) ∙ sym (stable (sample object version)) ∙ of_tie object version us;
} where
  of_tie : (object version : ℕ) (xs : List ObjectTouch) → filter (ties (λ a b. is_lt (key_cmp (key_of a) (key_of b))) (sample object version)) xs ≡ filter (is_of object version) xs
  of_tie object version xs = filter_agree _ (is_of object version) (λ t. same_tie object (object_of t) version (version_of t)) xs
