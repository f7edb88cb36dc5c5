-- What stays where nothing was written.
use Rattle.std.specs.Prelude.{nat_lt}
use Rattle.std.proofs.Common.{zero, suc, length, get_or, ◌≡◌, ◌≢◌, ℕ, ◌+◌, ◌*◌, ◌%◌, ◌<◌, ◌==◌, Bool, true, false, List, [], ◌∷◌, ◌++◌, cond, Some, refl, sym, ap, ◌∙◌, arith, inl, inr}
use Rattle.std.proofs.lemmas.Bool.{eq-eqb}
use Rattle.std.proofs.lemmas.Bool.Decides.{eqb_tells, nat_tests}
use mathlib.Core.List.{IsPrefix}
use Rattle.rw_objects.specs.declared.touch.Touch.{Touch}
use Rattle.rw_objects.specs.Space.{Space, mode_at, is_written, values_after, effect_at}
use Rattle.rw_objects.specs.Memory.{Memory, memory_after}
use Rattle.rw_objects.specs.Counts.{is_touched}
use Rattle.shared_parts.specs.Parts.{part_values, lane_writes, has_lane}
use Rattle.shared_parts.specs.declared.call.Call.{Call}
use Rattle.shared_parts.specs.Calls.{memory_after_calls}
use Rattle.shared_parts.specs.Writes.{writes}

one_or_none : (b : Bool) (n : ℕ) → cond b 1 0 + n ≡ 0 → b ≡ false
one_or_none true n e = absurd (omega (arith, e))
one_or_none false n e = refl

in_lane : (i j o : ℕ) → i < 8 → o ≡ 8 * j + i → (o % 8 == i) ≡ true
in_lane i j o low is = eq-eqb (o % 8) i (omega (arith, low, is))

-- no object of the part is written
lane_none : (i j : ℕ) (ts : List Touch) → i < 8 → lane_writes i ts ≡ 0 → is_written (mode_at ts (8 * j + i)) ≡ false
lane_none i j [] low none = refl
lane_none i j (t ∷ ts) low none =
    elim (eqb_tells t.object (8 * j + i)) [
      | inl p ↦ rw p.0 (one_or_none (is_written (Some t.mode)) (lane_writes i ts) (ap (λ (b : Bool). cond b (cond (is_written (Some t.mode)) 1 0) 0 + lane_writes i ts) (sym (in_lane i j t.object low p.1)) ∙ none))
      | inr p ↦ rw p.0 (lane_none i j ts low (omega (arith, none)))
    ]

module _ {Op Reply Value Fixed : Type 0} (space : Space Op Reply Value Fixed) where
  part_stays_once : (i : ℕ) (fixed : Fixed) (values : ℕ → Value) (op : Op) → i < 8 → lane_writes i (space.touches op) ≡ 0 → part_values i (values_after space fixed values op) ≡ part_values i values
  part_stays_once i fixed values op low none = λ k j. ap (λ b. cond b ((effect_at space fixed values op).written (8 * j + i)) (values (8 * j + i))) (lane_none i j (space.touches op) low none) k

  pub after_append : (m : Memory Value Fixed) (xs ys : List (Call Op Reply)) → memory_after_calls space m (xs ++ ys) ≡ memory_after_calls space (memory_after_calls space m xs) ys
  after_append m [] ys = refl
  after_append m (x ∷ xs) ys = after_append (memory_after space m x.op) xs ys

  pub fixed_after : (m : Memory Value Fixed) (cs : List (Call Op Reply)) → (memory_after_calls space m cs).fixed ≡ m.fixed
  fixed_after m [] = refl
  fixed_after m (c ∷ cs) = fixed_after (memory_after space m c.op) cs

  pub writes-append : (i : ℕ) (xs ys : List (Call Op Reply)) → writes space.touches i (xs ++ ys) ≡ writes space.touches i xs + writes space.touches i ys
  writes-append i [] ys = omega arith
  writes-append i (x ∷ xs) ys = let h = writes-append i xs ys in omega arith

  part_stays : (i : ℕ) (m : Memory Value Fixed) (cs : List (Call Op Reply)) → i < 8 → writes space.touches i cs ≡ 0 → part_values i (memory_after_calls space m cs).values ≡ part_values i m.values
  part_stays i m [] low none = refl
  part_stays i m (c ∷ cs) low none =
      part_stays i (memory_after space m c.op) cs low (omega (arith, none)) ∙ part_stays_once i m.fixed m.values c.op low (omega (arith, none))

  -- what a part was after some calls it is after more of them, if as many wrote it
  pub part_same : (i : ℕ) (m : Memory Value Fixed) (old all : List (Call Op Reply)) → i < 8 → IsPrefix old all → writes space.touches i old ≡ writes space.touches i all
      → part_values i (memory_after_calls space m old).values ≡ part_values i (memory_after_calls space m all).values
  part_same i m old all low pre same =
      let none : writes space.touches i pre.0 ≡ 0 = let h = writes-append i old pre.0 in let g = ap (writes space.touches i) pre.1 in omega (arith, h, g, same) in
      sym (ap (λ cs. part_values i (memory_after_calls space m cs).values) (sym pre.1) ∙ (ap (λ (x : Memory Value Fixed). part_values i x.values) (after_append m old pre.0) ∙ part_stays i (memory_after_calls space m old) pre.0 low none))

  -- a call more
  pub memory_with_call : (m : Memory Value Fixed) (before all : List (Call Op Reply)) (c : Call Op Reply) (op : Op) → all ≡ before ++ c ∷ [] → c.op ≡ op
      → memory_after_calls space m all ≡ memory_after space (memory_after_calls space m before) op
  memory_with_call m before all c op grown is =
      ap (memory_after_calls space m) grown ∙ (after_append m before (c ∷ []) ∙ ap (memory_after space (memory_after_calls space m before)) is)

  pub values_with_call : (m : Memory Value Fixed) (before all : List (Call Op Reply)) (c : Call Op Reply) (op : Op) → all ≡ before ++ c ∷ [] → c.op ≡ op
      → (memory_after_calls space m all).values ≡ values_after space m.fixed (memory_after_calls space m before).values op
  values_with_call m before all c op grown is =
      ap (λ (x : Memory Value Fixed). x.values) (memory_with_call m before all c op grown is)
      ∙ ap (λ f. values_after space f (memory_after_calls space m before).values op) (fixed_after m before)

  pub writes_with_call : (i : ℕ) (before all : List (Call Op Reply)) (c : Call Op Reply) (op : Op) → all ≡ before ++ c ∷ [] → c.op ≡ op
      → writes space.touches i all ≡ writes space.touches i before + lane_writes i (space.touches op)
  writes_with_call i before all c op grown is =
      let h = writes-append i before (c ∷ []) in
      let g = ap (writes space.touches i) grown in
      let k = ap (λ o. lane_writes i (space.touches o)) is in omega (arith, h, g, k)

-- a part of which nothing is touched is not written
pub no_lane : (i : ℕ) (ts : List Touch) → has_lane i ts ≡ false → lane_writes i ts ≡ 0
no_lane i [] none = refl
no_lane i (t ∷ ts) none =
    elim (eqb_tells (t.object % 8) i) [
      | inl p ↦ let h : true ≡ false = rw p.0 at none in absurd (cc)
      | inr p ↦ let h = no_lane i ts (rw p.0 at none) in rw p.0 (omega (arith, h))
    ]

-- what is not above 0 is 0
pub none_above : (n : ℕ) → nat_lt 0 n ≡ false → n ≡ 0
none_above n e = grind (arith, nat_tests, e)

-- a part is touched where one of its objects is
pub lane_touched : (i o : ℕ) (ts : List Touch) → is_touched ts o ≡ true → o % 8 ≡ i → has_lane i ts ≡ true
lane_touched i o [] touched is = absurd (cc)
lane_touched i o (t ∷ ts) touched is =
    elim (eqb_tells (t.object % 8) i) [
      | inl p ↦ rw p.0 refl
      | inr p ↦ elim (eqb_tells t.object o) [
        | inl q ↦ absurd (p.1 (ap (λ k. k % 8) q.1 ∙ is))
        | inr q ↦ rw p.0 (lane_touched i o ts (rw q.0 at touched) is)
      ]
    ]

-- what was seen so far, part by part
pub seen_so_far : {V : Type 0} (k j : ℕ) (x a b : V) → (k < j → a ≡ x) → (k ≡ j → b ≡ x) → (k ≢ j → b ≡ a) → k < j + 1 → b ≡ x
seen_so_far k j x a b before mine other low =
    elim (eqb_tells k j) [
      | inl p ↦ mine p.1
      | inr p ↦ other p.1 ∙ before (let q = p.1 in omega (arith, low, q))
    ]

-- each touch is of a touched object
pub touched_here : (ts : List Touch) (k : ℕ) (d : Touch) → k < length ts → is_touched ts (get_or ts k d).object ≡ true
touched_here [] k d low = absurd (omega (arith, low))
touched_here (t ∷ ts) zero d low = rw (eq-eqb t.object t.object refl) refl
touched_here (t ∷ ts) (suc k) d low =
    elim (eqb_tells t.object (get_or ts k d).object) [
      | inl p ↦ rw p.0 refl
      | inr p ↦ rw p.0 (touched_here ts k d (omega (arith, low)))
    ]
