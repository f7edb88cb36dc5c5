-- How many runs of neighbouring places were passed.
use Rattle.std.proofs.Common.{◌≡◌, ℕ, zero, suc, ◌+◌, ◌<◌, ◌≤◌, Bool, true, false, cond, List, [], ◌∷◌, ◌++◌, Some, None, refl, sym, ap, subst, ◌∙◌, append_assoc, arith, inl, inr, ◌⊎◌}
use Rattle.std.specs.Prelude.{count_by, is_none}
use Rattle.std.specs.Ordering.{nat_cmp}
use Rattle.std.specs.List.Sorted.{IsStrictlySortedBy}
use Rattle.std.specs.Map.{keys_of}
use Rattle.std.proofs.lemmas.Bool.{cases_lt}
use Rattle.std.proofs.lemmas.List.Sums.{sum_by-cons}
use Rattle.log_pieces.specs.Keyed.{value_at}
use Rattle.log_pieces.specs.KeyedLaws.{value_at-rest}
use Rattle.log_pieces.specs.PackedClaim.{Rising}
use Rattle.log_pieces.specs.Runs.{begins, runs}
use Rattle.log_pieces.proofs.Pages.{rising-append}
use Rattle.log_pieces.proofs.OneClaim.{none_above, same_key}
use Rattle.log_pieces.proofs.Locations.{RisesFrom, rises, none_before}

module _ {X : Type 0} where
  test : List (ℕ × X) → ℕ × X → Bool
  test all e = begins all e.0

  head_yes : (all es : List (ℕ × X)) (e : ℕ × X) → begins all e.0 ≡ true → count_by (λ (x : ℕ × X). begins all x.0) (e ∷ es) ≡ 1 + count_by (λ (x : ℕ × X). begins all x.0) es
  head_yes all es e h = sum_by-cons (λ (x : ℕ × X). cond (begins all x.0) 1 0) e es ∙ ap (λ b. cond b 1 0 + count_by (λ (x : ℕ × X). begins all x.0) es) h

  head_no : (all es : List (ℕ × X)) (e : ℕ × X) → begins all e.0 ≡ false → count_by (λ (x : ℕ × X). begins all x.0) (e ∷ es) ≡ 0 + count_by (λ (x : ℕ × X). begins all x.0) es
  head_no all es e h = sum_by-cons (λ (x : ℕ × X). cond (begins all x.0) 1 0) e es ∙ ap (λ b. cond b 1 0 + count_by (λ (x : ℕ × X). begins all x.0) es) h

  -- nothing was passed, or the place before `next` is claimed, and no place behind it was passed
  abbrev Passed : List (ℕ × X) → ℕ → ℕ → Type 0
  Passed all from next = ((next ≡ 5000000000) × (from ≡ 0)) ⊎ ((before : ℕ) × (x : X) × (next ≡ suc before) × (from ≡ next) × (value_at nat_cmp all before ≡ Some x))

  -- so many runs begin before `rest`
  pub record Begun (all rest : List (ℕ × X)) (next count : ℕ) : Type 0 where
    pub front : List (ℕ × X)
    pub from : ℕ
    pub parts : all ≡ front ++ rest
    pub counted : count + count_by (λ (x : ℕ × X). begins all x.0) rest ≡ runs all
    pub low : Rising 0 front from
    pub high : RisesFrom from rest
    pub passed : Passed all from next
    pub few : count ≤ from
    pub fits : from ≤ 4294967296

  pub begun_start : (all : List (ℕ × X)) → IsStrictlySortedBy nat_cmp (keys_of all) → Begun all all 5000000000 0
  begun_start all sorted = record { front = []; from = 0; parts = refl; counted = omega arith; low = omega arith; high = rises all sorted; passed = inl (refl, refl); few = omega arith; fits = omega arith }

  module _ {all rest : List (ℕ × X)} {next count : ℕ} (b : Begun all rest next count) (e : ℕ × X) (later : List (ℕ × X)) (is : rest ≡ e ∷ later) (small : e.0 < 4294967296) where
    parts_are : all ≡ b.front ++ e ∷ later
    parts_are = b.parts ∙ ap (λ (l : List (ℕ × X)). b.front ++ l) is

    ahead : RisesFrom b.from (e ∷ later)
    ahead = subst (λ (l : List (ℕ × X)). RisesFrom b.from l) is b.high

    -- a place between those passed and the next is not claimed
    gap : (q : ℕ) → b.from ≤ q → q < e.0 → value_at nat_cmp all q ≡ None
    gap q le lt = ap (λ (l : List (ℕ × X)). value_at nat_cmp l q) parts_are
        ∙ value_at-rest nat_cmp b.front (e ∷ later) q (none_above 0 b.from b.front q b.low le)
        ∙ none_before e.0 (e ∷ later) q (omega arith, ahead.1) lt

    here : value_at nat_cmp all e.0 ≡ Some e.1
    here = let le = ahead.0 in ap (λ (l : List (ℕ × X)). value_at nat_cmp l e.0) parts_are
        ∙ value_at-rest nat_cmp b.front (e ∷ later) e.0 (none_above 0 b.from b.front e.0 b.low le)
        ∙ rw (same_key e.0) refl

    begins_at : (q : ℕ) → q ≡ e.0 → (q ≡ next → ⊥) → begins all q ≡ true
    begins_at zero same apart = refl
    begins_at (suc q) same apart =
        let le = ahead.0 in
        ap is_none (gap q (elim b.passed [ inl none ↦ let f = none.1 in omega arith | inr last ↦ past last le ]) (omega arith))
      where
        past : ((before : ℕ) × (x : X) × (next ≡ suc before) × (b.from ≡ next) × (value_at nat_cmp all before ≡ Some x)) → b.from ≤ e.0 → b.from ≤ q
        past last le = elim (cases_lt q b.from) [
          | inl lt ↦ absurd (apart (let f = last.3 in omega arith))
          | inr ge ↦ ge
        ]

    goes_on : (q : ℕ) → q ≡ e.0 → q ≡ next → begins all q ≡ false
    goes_on q same at = elim b.passed [
      | inl none ↦ absurd (let n = none.0 in omega arith)
      | inr last ↦ rw (at, last.2, last.4) refl
    ]

    step : (more : ℕ) → more + count_by (λ (x : ℕ × X). begins all x.0) later ≡ runs all → more ≤ count + 1 → Begun all later (e.0 + 1) more
    step more counted le = record {
      front = b.front ++ e ∷ [];
      from = suc e.0;
      parts = parts_are ∙ sym (append_assoc b.front (e ∷ []) later);
      counted = counted;
      low = rising-append 0 b.from (suc e.0) b.front (e ∷ []) b.low (ahead.0, omega arith);
      high = ahead.1;
      passed = inr (e.0, e.1, omega arith, omega arith, here);
      few = let f = b.few in let a = ahead.0 in omega arith;
      fits = omega arith;
    }

    pub begun_yes : (e.0 ≡ next → ⊥) → Begun all later (e.0 + 1) (count + 1)
    begun_yes apart =
        let whole = ap (λ (l : List (ℕ × X)). count_by (λ (x : ℕ × X). begins all x.0) l) is ∙ head_yes all later e (begins_at e.0 refl apart) in
        let so_far = b.counted in
        step (count + 1) (omega arith) (omega arith)

    pub begun_no : e.0 ≡ next → Begun all later (e.0 + 1) count
    begun_no at =
        let whole = ap (λ (l : List (ℕ × X)). count_by (λ (x : ℕ × X). begins all x.0) l) is ∙ head_no all later e (goes_on e.0 refl at) in
        let so_far = b.counted in
        step count (omega arith) (omega arith)

  pub begun_end : {all rest : List (ℕ × X)} {next count : ℕ} → Begun all rest next count → rest ≡ [] → count ≡ runs all
  begun_end {all} {rest} {next} {count} b end =
      let none : count_by (λ (x : ℕ × X). begins all x.0) rest ≡ 0 = ap (λ (l : List (ℕ × X)). count_by (λ (x : ℕ × X). begins all x.0) l) end in
      let so_far : count + count_by (λ (x : ℕ × X). begins all x.0) rest ≡ runs all = b.counted in
      let zero : count + 0 ≡ count = omega arith in
      sym zero ∙ ap (λ (n : ℕ). count + n) (sym none) ∙ so_far
