-- An operation of one part.
use Rattle.std.proofs.Common.{◌≡◌, ◌≢◌, ℕ, ◌%◌, ◌==◌, true, false, List, ◌++◌, ◌∷◌, [], cond, refl, sym, ap, ◌∙◌, inl, inr, arith}
use Rattle.std.proofs.lemmas.Bool.Decides.{eqb_tells}
use Rattle.rw_objects.specs.declared.touch.Touch.{Touch}
use Rattle.rw_objects.specs.Space.{Space}
use Rattle.rw_objects.specs.Counts.{is_touched}
use Rattle.shared_parts.specs.declared.call.Call.{Call}
use Rattle.shared_parts.specs.Writes.{writes}
use Rattle.shared_parts.specs.Eights.{Totals, totals_by}
use Rattle.shared_parts.specs.Ones.{One, CoversOne, lane_of}
use Rattle.shared_parts.proofs.Writes.{lane_touched, no_lane, writes_with_call}

-- each object that it touches is of its part
pub lane_is : {P : Type 0} (ts : List Touch) (one : One P) (o : ℕ) → CoversOne ts one → is_touched ts o ≡ true → o % 8 ≡ lane_of one
lane_is ts one o covers touched =
    elim (eqb_tells (o % 8) (lane_of one)) [
      | inl p ↦ p.1
      | inr p ↦ let both : false ≡ true = sym (covers.others (o % 8) p.1) ∙ lane_touched (o % 8) o ts touched refl in absurd (cc both)
    ]

-- the totals with another one of part i
abbrev pub with_total : ℕ → ℕ → Totals → Totals
with_total i x w = record {
  zero = cond (0 == i) x w.zero;
  one = cond (1 == i) x w.one;
  two = cond (2 == i) x w.two;
  three = cond (3 == i) x w.three;
  four = cond (4 == i) x w.four;
  five = cond (5 == i) x w.five;
  six = cond (6 == i) x w.six;
  seven = cond (7 == i) x w.seven;
}

total_at : (i j : ℕ) (old new : ℕ → ℕ) → (j ≢ i → old j ≡ new j) → cond (j == i) (new i) (old j) ≡ new j
total_at i j old new same =
    elim (eqb_tells j i) [
      | inl p ↦ rw p.0 (ap new (sym p.1))
      | inr p ↦ rw p.0 (same p.1)
    ]

-- where just those of part i are other ones
pub one_total : (i : ℕ) (old new : ℕ → ℕ) → ((j : ℕ) → j ≢ i → old j ≡ new j) → with_total i (new i) (totals_by old) ≡ totals_by new
one_total i old new same = λ k. record {
  zero = total_at i 0 old new (same 0) k;
  one = total_at i 1 old new (same 1) k;
  two = total_at i 2 old new (same 2) k;
  three = total_at i 3 old new (same 3) k;
  four = total_at i 4 old new (same 4) k;
  five = total_at i 5 old new (same 5) k;
  six = total_at i 6 old new (same 6) k;
  seven = total_at i 7 old new (same 7) k;
}

module _ {Op Reply Value Fixed : Type 0} (space : Space Op Reply Value Fixed) where
  -- a call writes no part but the one that it touches
  pub others_stay : {P : Type 0} (one : One P) (before all : List (Call Op Reply)) (op : Op) → CoversOne (space.touches op) one
      → ((c : Call Op Reply) × (all ≡ before ++ c ∷ []) × (c.op ≡ op)) → (j : ℕ) → j ≢ lane_of one → writes space.touches j before ≡ writes space.touches j all
  others_stay one before all op covers grown j other =
      let more = writes_with_call space j before all grown.0 op grown.1 grown.2 in
      let none = no_lane j (space.touches op) (covers.others j other) in omega (arith, more, none)

  -- the totals, with those of the part that was changed
  pub totals_with_call : {P : Type 0} {old : Totals} (i x : ℕ) (one : One P) (before all : List (Call Op Reply)) (op : Op) → CoversOne (space.touches op) one
      → ((c : Call Op Reply) × (all ≡ before ++ c ∷ []) × (c.op ≡ op)) → lane_of one ≡ i → old ≡ totals_by (λ j. writes space.touches j before)
      → x ≡ writes space.touches i all → with_total i x old ≡ totals_by (λ j. writes space.touches j all)
  totals_with_call i x one before all op covers grown at was now =
      ap (with_total i x) was ∙ (ap (λ y. with_total i y (totals_by (λ j. writes space.touches j before))) now
      ∙ one_total i (λ j. writes space.touches j before) (λ j. writes space.touches j all) (λ j other. others_stay one before all op covers grown j (λ e. other (e ∙ at))))
