-- The first line of some bytes.
use Rattle.std.proofs.Common.{◌≡◌, ℕ, suc, ◌+◌, ◌-◌, ◌<◌, ◌≤◌, true, List, [], ◌∷◌, ◌++◌, length, take, drop, sym, ap, subst, ◌∙◌, arith, add-one, append_assoc, inl, inr}
use Rattle.std.proofs.Math.Seq.{drop-cons, take-suc, get_or-append_right}
use Rattle.std.proofs.Math.ListN.{get_or-append, length-append}
use Rattle.std.proofs.lemmas.List.{take-append-drop, drop-take, drop-drop, length-take, get_or-take}
use Rattle.std.proofs.lemmas.Bool.{eqb-true, eq-eqb, cases_lt}
use Rattle.std.specs.Prelude.{slice_range, slice_index, ◌==◌, Some}
use Rattle.memchr.specs.Find.{IsFirst}
use Rattle.replica.specs.Lines.{HasNoEnd}

-- what stands before, at and behind a line end
parted : (held : List ℕ) (at : ℕ) → at < length held → slice_index held at ≡ 10 → held ≡ take at held ++ 10 ∷ drop (at + 1) held
parted held at lt is = sym (take-append-drop at held) ∙ ap (λ l. take at held ++ l) (drop-cons held at 0 lt ∙ ap (λ b. b ∷ drop (suc at) held) is ∙ ap (λ n. 10 ∷ drop n held) (sym (add-one at)))

front_is : (held : List ℕ) (at : ℕ) → at < length held → slice_index held at ≡ 10 → take (at + 1) held ≡ take at held ++ 10 ∷ []
front_is held at lt is = rw (add-one at) (take-suc held at 0 lt ∙ ap (λ b. take at held ++ b ∷ []) is)

-- what a later start leaves of a range
later : (bytes : List ℕ) (s e n : ℕ) → s + n ≤ e → drop n (slice_range bytes s e) ≡ slice_range bytes (s + n) e
later bytes s e n le =
    let parts : e - s ≡ n + (e - (s + n)) = omega arith in
    ap (λ k. drop n (take k (drop s bytes))) parts ∙ drop-take n (e - (s + n)) (drop s bytes) ∙ ap (λ l. take (e - (s + n)) l) (drop-drop n s bytes)

-- what a range has ends within it
range_short : (bytes : List ℕ) (s e at : ℕ) → at < length (slice_range bytes s e) → s + (at + 1) ≤ e
range_short bytes s e at lt = let n : length (slice_range bytes s e) ≤ e - s = rw (length-take (e - s) (drop s bytes)) (omega arith) in omega arith

pub first_line : (bytes : List ℕ) (s e at : ℕ) (old before after part : List ℕ)
    → slice_range bytes s e ≡ old → IsFirst (λ k. (slice_index (slice_range bytes s e) k == 10) ≡ true) 0 (length (slice_range bytes s e)) (Some at)
    → part ≡ take (at + 1) (slice_range bytes s e) → after ≡ before ++ part
    → (front : List ℕ) × HasNoEnd front × (old ≡ front ++ 10 ∷ slice_range bytes (s + (at + 1)) e) × (after ≡ before ++ (front ++ 10 ∷ []))
first_line bytes s e at old before after part view first part_is after_is =
    let held = slice_range bytes s e in
    let lt : at < length held = first.0.high in
    let is : slice_index held at ≡ 10 = eqb-true _ _ first.1 in (
      take at held,
      λ k below end. first.0.before k (omega arith) (short k below) (eq-eqb _ _ (sym (get_or-take at held k 0 (short k below)) ∙ end)),
      sym view ∙ parted held at lt is ∙ ap (λ l. take at held ++ 10 ∷ l) (later bytes s e (at + 1) (range_short bytes s e at lt)),
      after_is ∙ ap (λ l. before ++ l) (part_is ∙ front_is held at lt is),
    )
  where
    short : (k : ℕ) → k < length (take at (slice_range bytes s e)) → k < at
    short k below = let n = length-take at (slice_range bytes s e) in omega arith

pub no_end_append : (xs ys : List ℕ) → HasNoEnd xs → HasNoEnd ys → HasNoEnd (xs ++ ys)
no_end_append xs ys h g k below end = elim (cases_lt k (length xs)) [
  | inr past ↦ g (k - length xs) (let n = length-append xs ys in omega arith) (sym (get_or-append_right xs ys k 0 past) ∙ end)
  | inl within ↦ h k within (sym (get_or-append xs ys 0 k within) ∙ end)
]

-- a line begun, and the rest of it
pub line_whole : (all line held front held' line' : List ℕ) → HasNoEnd line → all ≡ line ++ held → HasNoEnd front → held ≡ front ++ 10 ∷ held' → line' ≡ line ++ (front ++ 10 ∷ [])
    → HasNoEnd (line ++ front) × (all ≡ (line ++ front) ++ 10 ∷ held') × (line' ≡ (line ++ front) ++ 10 ∷ [])
line_whole all line held front held' line' no_end is no_end' parts line_is =
    (no_end_append line front no_end no_end', is ∙ ap (λ l. line ++ l) parts ∙ sym (append_assoc line front (10 ∷ held')), line_is ∙ sym (append_assoc line front (10 ∷ [])))

-- a line begun, and more of it
pub line_more : (all line held held' line' : List ℕ) → HasNoEnd line → all ≡ line ++ held → HasNoEnd held → line' ≡ line ++ held → HasNoEnd line' × (all ≡ line')
line_more all line held held' line' no_end is no_end' line_is = (subst (λ (l : List ℕ). HasNoEnd l) (sym line_is) (no_end_append line held no_end no_end'), is ∙ sym line_is)
