-- Parts of a list, and bytes that are put over a part of it.
use Rattle.std.proofs.Common.{◌≡◌, ℕ, ◌+◌, ◌-◌, ◌<◌, ◌≤◌, inl, inr, List, length, get_or, take, drop, sym, ap, ◌∙◌, arith}
use Rattle.std.proofs.lemmas.List.{same_lists, places, length-drop, get_or-drop}
use Rattle.std.proofs.lemmas.Bool.{cases_lt}
use Rattle.block_objects.specs.Access.{overwrite}

-- what stands at a place once bytes were put over others
pub overwrite_before : (at : ℕ) (new xs : List ℕ) (i d : ℕ) → at ≤ length xs → i < at → get_or (overwrite at new xs) i d ≡ get_or xs i d
overwrite_before at new xs i d within before = grind (arith, places)

pub overwrite_at : (at : ℕ) (new xs : List ℕ) (i d : ℕ) → at ≤ length xs → at ≤ i → i < at + length new → get_or (overwrite at new xs) i d ≡ get_or new (i - at) d
overwrite_at at new xs i d within low high = grind (arith, places)

pub overwrite_behind : (at : ℕ) (new xs : List ℕ) (i d : ℕ) → at + length new ≤ length xs → at + length new ≤ i → get_or (overwrite at new xs) i d ≡ get_or xs i d
overwrite_behind at new xs i d within behind = grind (arith, places)

pub length-overwrite : (at : ℕ) (new xs : List ℕ) → at + length new ≤ length xs → length (overwrite at new xs) ≡ length xs
length-overwrite at new xs within = grind (arith, places)

pub window_at : (k n : ℕ) (xs : List ℕ) (i d : ℕ) → i < n → get_or (take n (drop k xs)) i d ≡ get_or xs (k + i) d
window_at k n xs i d h = grind (arith, places)

pub length-window : (k n : ℕ) (xs : List ℕ) → k + n ≤ length xs → length (take n (drop k xs)) ≡ n
length-window k n xs h = grind (arith, places)

-- bytes put over a part of a list are that part of the list with the bytes put over it
module _ (k n at : ℕ) (new xs : List ℕ) (fits : at + length new ≤ n) (within : k + n ≤ length xs) where
  part_len : length (take n (drop k xs)) ≡ n
  part_len = length-window k n xs within

  whole_len : length (overwrite (k + at) new xs) ≡ length xs
  whole_len = length-overwrite (k + at) new xs (omega arith)

  lengths : length (overwrite at new (take n (drop k xs))) ≡ length (take n (drop k (overwrite (k + at) new xs)))
  lengths =
      let fits_part : at + length new ≤ length (take n (drop k xs)) = omega (arith, part_len) in
      let fits_whole : k + n ≤ length (overwrite (k + at) new xs) = omega (arith, whole_len) in
      length-overwrite at new (take n (drop k xs)) fits_part ∙ (part_len ∙ sym (length-window k n (overwrite (k + at) new xs) fits_whole))

  Same : ℕ → ℕ → Type 0
  Same i d = get_or (overwrite at new (take n (drop k xs))) i d ≡ get_or (take n (drop k (overwrite (k + at) new xs))) i d

  same_before : (i d : ℕ) → i < at → Same i d
  unfolding Same
  same_before i d low =
      let a : at ≤ length (take n (drop k xs)) = omega (arith, part_len) in
      let b : k + at ≤ length xs = omega arith in
      let i_n : i < n = omega arith in
      let k_i : k + i < k + at = omega arith in
      overwrite_before at new (take n (drop k xs)) i d a low ∙
      (window_at k n xs i d i_n ∙ (sym (overwrite_before (k + at) new xs (k + i) d b k_i) ∙ sym (window_at k n (overwrite (k + at) new xs) i d i_n)))

  same_at : (i d : ℕ) → at ≤ i → i < at + length new → Same i d
  unfolding Same
  same_at i d low high =
      let a : at ≤ length (take n (drop k xs)) = omega (arith, part_len) in
      let b : k + at ≤ length xs = omega arith in
      let i_n : i < n = omega arith in
      let k_low : k + at ≤ k + i = omega arith in
      let k_high : k + i < k + at + length new = omega arith in
      let place : k + i - (k + at) ≡ i - at = omega arith in
      overwrite_at at new (take n (drop k xs)) i d a low high ∙
      (ap (λ j. get_or new j d) (sym place) ∙
      (sym (overwrite_at (k + at) new xs (k + i) d b k_low k_high) ∙ sym (window_at k n (overwrite (k + at) new xs) i d i_n)))

  same_behind : (i d : ℕ) → at + length new ≤ i → i < n → Same i d
  unfolding Same
  same_behind i d low i_n =
      let a : at + length new ≤ length (take n (drop k xs)) = omega (arith, part_len) in
      let b : k + at + length new ≤ length xs = omega arith in
      let k_low : k + at + length new ≤ k + i = omega arith in
      overwrite_behind at new (take n (drop k xs)) i d a low ∙
      (window_at k n xs i d i_n ∙ (sym (overwrite_behind (k + at) new xs (k + i) d b k_low) ∙ sym (window_at k n (overwrite (k + at) new xs) i d i_n)))

  same_from : (i d : ℕ) → i < n → at ≤ i → Same i d
  same_from i d i_n low = elim (cases_lt i (at + length new)) [ inl high ↦ same_at i d low high | inr past ↦ same_behind i d past i_n ]

  pointwise : (i d : ℕ) → i < n → Same i d
  pointwise i d i_n = elim (cases_lt i at) [ inl before ↦ same_before i d before | inr low ↦ same_from i d i_n low ]

  pub window_overwrite : overwrite at new (take n (drop k xs)) ≡ take n (drop k (overwrite (k + at) new xs))
  unfolding Same
  window_overwrite =
      let fits_part : at + length new ≤ length (take n (drop k xs)) = omega (arith, part_len) in
      let len : length (overwrite at new (take n (drop k xs))) ≡ n = length-overwrite at new (take n (drop k xs)) fits_part ∙ part_len in
      same_lists _ _ lengths (λ i d h. pointwise i d (omega (arith, len, h)))

-- and other parts stay
pub window_before : (k n at : ℕ) (new xs : List ℕ) → k + n ≤ at → at + length new ≤ length xs → take n (drop k (overwrite at new xs)) ≡ take n (drop k xs)
window_before k n at new xs before within = same_lists _ _ (search (arith, places)) pointwise where
  pointwise : (i d : ℕ) → i < length (take n (drop k (overwrite at new xs))) → get_or (take n (drop k (overwrite at new xs))) i d ≡ get_or (take n (drop k xs)) i d
  pointwise i d h = grind (arith, places)

pub window_behind : (k n at : ℕ) (new xs : List ℕ) → at + length new ≤ k → at + length new ≤ length xs → take n (drop k (overwrite at new xs)) ≡ take n (drop k xs)
window_behind k n at new xs behind within =
    let rest : drop k (overwrite at new xs) ≡ drop k xs = same_lists _ _ lengths pointwise in
    ap (take n) rest where
      lengths : length (drop k (overwrite at new xs)) ≡ length (drop k xs)
      lengths = length-drop k (overwrite at new xs) ∙ (ap (λ m. m - k) (length-overwrite at new xs within) ∙ sym (length-drop k xs))

      pointwise : (i d : ℕ) → i < length (drop k (overwrite at new xs)) → get_or (drop k (overwrite at new xs)) i d ≡ get_or (drop k xs) i d
      pointwise i d h =
          let past : at + length new ≤ k + i = omega arith in
          get_or-drop k (overwrite at new xs) i d ∙ (overwrite_behind at new xs (k + i) d within past ∙ sym (get_or-drop k xs i d))
