-- Entries that fill the places below an end.
use Rattle.std.proofs.Common.{◌≡◌, ℕ, suc, ◌<◌, ◌≤◌, true, false, List, [], ◌∷◌, refl, sym, ap, subst, ◌∙◌, arith, inl, inr, Option, Some, None}
use Rattle.std.specs.Prelude.{IsTrue, nat_eq}
use Rattle.std.specs.Ordering.{nat_cmp}
use Rattle.std.proofs.lemmas.Bool.{cases_lt}
use Rattle.rw_objects.specs.declared.entry.Entry.{Entry}
use Rattle.log_pieces.specs.declared.flat.Flat.{Flat}
use Rattle.log_pieces.specs.declared.flat.Flat.TheVariants.{Known, Clash}
use Rattle.log_pieces.specs.Keyed.{value_at}
use Rattle.replica.specs.Flats.{is_clash}
use Rattle.replica.specs.Counts.{IsFilled}
use Rattle.replica.proofs.Counting.{Rises, after_places, same_place, nothing_at}

-- known items stand at n and the places after it, to the end
abbrev pub Fills : ℕ → List (ℕ × Flat Entry) → ℕ → Type 0
Fills n [] end = n ≡ end
Fills n (e ∷ es) end = (e.0 ≡ n) × (is_clash e.1 ≡ false) × Fills (suc n) es end

-- what an entry has at its place, and what stands after it
pub here : (e : ℕ × Flat Entry) (es : List (ℕ × Flat Entry)) → value_at nat_cmp (e ∷ es) e.0 ≡ Some e.1
here e es = rw (same_place e.0) refl

pub later : (e : ℕ × Flat Entry) (es : List (ℕ × Flat Entry)) (q : ℕ) → e.0 < q → value_at nat_cmp (e ∷ es) q ≡ value_at nat_cmp es q
later e es q lt = rw (after_places q e.0 lt) refl

known : (item : Flat Entry) → is_clash item ≡ false → (entry : Entry) × (item ≡ Known entry)
known (Known entry) h = (entry, refl)
known Clash h = absurd (let bad : true ≡ false = h in cc)

no_clash : (item : Flat Entry) (entry : Entry) → item ≡ Known entry → is_clash item ≡ false
no_clash item entry h = rw h refl

from_first : (n : ℕ) (es : List (ℕ × Flat Entry)) (end : ℕ) → Fills n es end → n ≤ end
from_first n [] end f = omega (arith, f)
from_first n (e ∷ es) end f = let rest = from_first (suc n) es end f.2 in omega arith

-- below the end each place from the first on has a known item
fill_known : (n : ℕ) (es : List (ℕ × Flat Entry)) (end q : ℕ) → Fills n es end → n ≤ q → q < end → (entry : Entry) × (value_at nat_cmp es q ≡ Some (Known entry))
fill_known n [] end q f from below = absurd (omega (arith, f))
fill_known n (e ∷ es) end q f from below = elim (cases_lt e.0 q) [
  | inl past ↦
      let rest = fill_known (suc n) es end q f.2 (omega (arith, f.0)) below in
      (rest.0, later e es q past ∙ rest.1)
  | inr at ↦
      let is = known e.1 f.1 in
      let place : e.0 ≡ q = omega (arith, f.0) in
      (is.0, subst (λ (p : ℕ). value_at nat_cmp (e ∷ es) p ≡ Some e.1) place (here e es) ∙ ap Some is.1)
]

-- no other place has an item
fill_none : (n : ℕ) (es : List (ℕ × Flat Entry)) (end q : ℕ) → Fills n es end → end ≤ q → value_at nat_cmp es q ≡ None
fill_none n [] end q f past = refl
fill_none n (e ∷ es) end q f past =
    let within = from_first (suc n) es end f.2 in
    later e es q (omega (arith, f.0)) ∙ fill_none (suc n) es end q f.2 past

abbrev Found : List (ℕ × Flat Entry) → ℕ → ℕ → Type 0
Found es n end = (q : ℕ) → n ≤ q → q < end → (entry : Entry) × (value_at nat_cmp es q ≡ Some (Known entry))

abbrev Gone : List (ℕ × Flat Entry) → ℕ → Type 0
Gone es end = (q : ℕ) → end ≤ q → value_at nat_cmp es q ≡ None

pub unfilled : {A : Type 0} (x : Option (Flat Entry)) (item : Flat Entry) → x ≡ Some item → x ≡ None → A
unfilled x item some none = absurd (let bad : Some item ≡ None = sym some ∙ none in cc)

fill_back : (n : ℕ) (es : List (ℕ × Flat Entry)) (end : ℕ) → Rises n es → n ≤ end → Found es n end → Gone es end → Fills n es end
fill_back n [] end r le found gone = elim (cases_lt n end) [
  | inl lt ↦ let item = found n (omega arith) lt in unfilled None (Known item.0) item.1 refl
  | inr ge ↦ omega arith
]
fill_back n (e ∷ es) end r le found gone = elim (cases_lt e.0 end) [
  | inr past ↦ unfilled (value_at nat_cmp (e ∷ es) e.0) e.1 (here e es) (gone e.0 past)
  | inl within ↦ elim (cases_lt n e.0) [
    | inl before ↦
        let item = found n (omega arith) (omega arith) in
        unfilled (value_at nat_cmp (e ∷ es) n) (Known item.0) item.1 (nothing_at e.0 n (e ∷ es) (omega arith, r.1) before)
    | inr at ↦
        let first = r.0 in
        let place : e.0 ≡ n = omega arith in
        let item = found e.0 (omega arith) within in
        let is : e.1 ≡ Known item.0 = (let both : Some e.1 ≡ Some (Known item.0) = sym (here e es) ∙ item.1 in cc) in
        let rest = fill_back (suc n) es end (subst (λ (k : ℕ). Rises (suc k) es) place r.1) (omega arith)
        (λ q from below. let one = found q (omega arith) below in (one.0, sym (later e es q (omega arith)) ∙ one.1))
        (λ q past. sym (later e es q (omega arith)) ∙ gone q past) in
        (place, no_clash e.1 item.0 is, rest)
  ]
]

-- filled from the first place on
pub fills_filled : (es : List (ℕ × Flat Entry)) (end : ℕ) → Fills 0 es end → IsFilled es end
fills_filled es end f = (λ q below. fill_known 0 es end q f (omega arith) below, λ q past. fill_none 0 es end q f past)

pub filled_fills : (es : List (ℕ × Flat Entry)) (end : ℕ) → Rises 0 es → IsFilled es end → Fills 0 es end
filled_fills es end r h = fill_back 0 es end r (omega arith) (λ q from below. h.0 q below) h.1

-- a map in which no place has an item
pub bare : (es : List (ℕ × Flat Entry)) → ((place : ℕ) → value_at nat_cmp es place ≡ None) → es ≡ []
bare [] h = refl
bare (e ∷ es) h = unfilled (value_at nat_cmp (e ∷ es) e.0) e.1 (here e es) (h e.0)

pub same_true : (x y z : ℕ) → y ≡ z → IsTrue (nat_eq x y) → x ≡ z
same_true x y z is test = grind arith

pub true_same : (x y z : ℕ) → y ≡ z → x ≡ z → IsTrue (nat_eq x y)
true_same x y z is same = grind arith
