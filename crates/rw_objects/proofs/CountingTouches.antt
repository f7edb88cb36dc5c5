-- Counting rising touches one by one.
use Rattle.std.proofs.Common.{◌≡◌, ◌≢◌, ℕ, ◌+◌, ◌<◌, false, List, [], ◌∷◌, length, None, sym, ap, ◌∙◌, subst, refl, arith, add-one, drop, drop-cons, get_or, slice_set, inl, inr}
use Rattle.std.proofs.lemmas.List.{get_or-set_same, get_or-set_other}
use Rattle.std.proofs.lemmas.Bool.Decides.{eqb_tells}
use Rattle.rw_objects.specs.declared.touch.Touch.{Touch}
use Rattle.rw_objects.specs.declared.count.Count.{Count}
use Rattle.rw_objects.specs.Space.{mode_at, RisesFrom, AllBelow}
use Rattle.rw_objects.specs.Counts.{count_at, no_count, count_after, count_after_if, counts_after, all_found, found_by, is_touched, CanCountAll, CanCount}

pub none_below : (n : ℕ) (ts : List Touch) (o : ℕ) → RisesFrom n ts → o < n → mode_at ts o ≡ None
none_below n [] o r h = refl
none_below n (t ∷ ts) o r h =
    elim (eqb_tells t.object o) [
      | inl p ↦ absurd (omega (arith, p.1, r.0))
      | inr p ↦ rw p.0 (none_below (t.object + 1) ts o r.1 (omega (arith, r.0)))
    ]

-- the counts after one touch
abbrev pub touched : Touch → List Count → List Count
touched t cs = slice_set cs t.object (count_after t.mode (count_at cs t.object))

pub touched_same : (t : Touch) (cs : List Count) → t.object < length cs → count_at (touched t cs) t.object ≡ count_after t.mode (count_at cs t.object)
touched_same t cs h = get_or-set_same cs t.object _ no_count h

pub touched_other : (t : Touch) (cs : List Count) (o : ℕ) → o ≢ t.object → count_at (touched t cs) o ≡ count_at cs o
touched_other t cs o h = get_or-set_other cs t.object o _ no_count h

pub counts_step : (t : Touch) (ts : List Touch) (cs : List Count) (o : ℕ) → t.object < length cs → RisesFrom (t.object + 1) ts → counts_after ts (count_at (touched t cs)) o ≡ counts_after (t ∷ ts) (count_at cs) o
counts_step t ts cs o h r =
    elim (eqb_tells t.object o) [
      | inl p ↦ rw (p.0, ← p.1, none_below (t.object + 1) ts t.object r (omega arith)) (touched_same t cs h)
      | inr p ↦ rw p.0 (ap (count_after_if (mode_at ts o)) (touched_other t cs o (λ e. p.1 (sym e))))
    ]

pub found_step : (n : ℕ) (t : Touch) (ts : List Touch) (cs : List Count) → t.object < n → RisesFrom n ts → all_found ts (count_at (touched t cs)) ≡ all_found ts (count_at cs)
found_step n t [] cs h r = refl
found_step n t (u ∷ ts) cs h r =
    let e : count_at (touched t cs) u.object ≡ count_at cs u.object = touched_other t cs u.object (λ (e : u.object ≡ t.object). absurd (omega (arith, e, r.0))) in
    ap (λ c. found_by u c ∷ all_found ts (count_at (touched t cs))) e ∙ ap (λ (l : List _). found_by u (count_at cs u.object) ∷ l) (found_step (u.object + 1) t ts cs (omega (arith, r.0)) r.1)

pub untouched_below : (n : ℕ) (ts : List Touch) (o : ℕ) → RisesFrom n ts → o < n → is_touched ts o ≡ false
untouched_below n [] o r h = refl
untouched_below n (t ∷ ts) o r h =
    elim (eqb_tells t.object o) [
      | inl p ↦ absurd (omega (arith, p.1, r.0))
      | inr p ↦ rw p.0 (untouched_below (t.object + 1) ts o r.1 (omega (arith, r.0)))
    ]

pub room_step : (n : ℕ) (t : Touch) (ts : List Touch) (cs : List Count) → t.object < n → RisesFrom n ts → CanCountAll (t ∷ ts) cs → CanCountAll ts (touched t cs)
room_step n t ts cs h r room o is =
    elim (eqb_tells t.object o) [
      | inl p ↦ let e : is_touched ts o ≡ false = untouched_below n ts o r (omega (arith, p.1)) in absurd (cc)
      | inr p ↦ subst CanCount (sym (touched_other t cs o (λ e. p.1 (sym e)))) (room o (rw p.0 is))
    ]

pub below_len : (ts : List Touch) (m n : ℕ) → m ≡ n → AllBelow m ts → AllBelow n ts
below_len ts m n e h = subst (λ k. AllBelow k ts) e h

pub drop_here : (ts : List Touch) (i : ℕ) (d : Touch) → i < length ts → drop i ts ≡ get_or ts i d ∷ drop (i + 1) ts
drop_here ts i d h = rw add-one (drop-cons ts i d h)
