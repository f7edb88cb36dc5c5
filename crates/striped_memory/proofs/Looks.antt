-- What is seen of an object.
use Rattle.std.proofs.Common.{◌≡◌, ℕ, ◌+◌, ◌-◌, ◌≤◌, ◌<◌, List, ◌++◌, length, get_or, take, drop, replicate, min, [], ◌∷◌, zero, suc, slice_index, inl, inr, refl, sym, ap, ◌∙◌, arith}
use Rattle.std.proofs.lemmas.List.{same_lists, places, append-nil, take-replicate, drop-replicate, get_or_append_left, get_or_past}
use Rattle.std.proofs.Math.Seq.{take-append-add, drop-cons, get_or-append_right}
use Rattle.std.proofs.lemmas.Bool.{cases_lt}
use Rattle.memory_parts.specs.declared.seen.Seen.{Seen}
use Rattle.wasm_types.specs.declared.operation.Action.TheVariants as act
use Rattle.memory_parts.specs.declared.seen.Seen.TheVariants as see
use Rattle.memory_parts.specs.SharedCut.{bytes_in}

-- bytes that are put over eight zeros
pub padded : (n : ℕ) (part : List ℕ) → length part ≤ n → part ++ drop (length part) (replicate n 0) ≡ take n (part ++ replicate n 0)
padded n part few =
    let k : length part + (n - length part) ≡ n = omega arith in
    ap (λ l. part ++ l) (drop-replicate (length part) n 0 ∙ sym (take-replicate (n - length part) n 0 (omega arith)))
    ∙ sym (take-append-add part (replicate n 0) (n - length part)) ∙ ap (λ m. take m (part ++ replicate n 0)) k

-- the first bytes of eight
pub first_bytes_are : (bytes : List ℕ) (len m : ℕ) → m ≡ min len 8 → length bytes ≡ 8 → take m bytes ≡ take len bytes
first_bytes_are bytes len m is all = same_lists _ _ (grind (arith, places)) pointwise where
  pointwise : (i d : ℕ) → i < length (take m bytes) → get_or (take m bytes) i d ≡ get_or (take len bytes) i d
  pointwise i d h = grind (arith, places)

-- the bytes of several parts that were seen
pub bytes_split : (s : Seen) (ss : List Seen) → bytes_in (s ∷ ss) ≡ bytes_in (s ∷ []) ++ bytes_in ss
bytes_split (see.Part len bytes) ss = ap (λ l. l ++ bytes_in ss) (sym (append-nil (take len bytes)))
bytes_split (see.Pages pages c) ss = refl
bytes_split see.Nothing ss = refl
bytes_split (see.Threads n) ss = refl
bytes_split (see.Holds b) ss = refl

pub bytes_from : (seen : List Seen) (i : ℕ) (d : Seen) (part : List ℕ) → i < length seen → part ≡ bytes_in (get_or seen i d ∷ []) → bytes_in (drop i seen) ≡ part ++ bytes_in (drop (i + 1) seen)
bytes_from seen i d part low is =
    let next : suc i ≡ i + 1 = omega arith in
    ap bytes_in (drop-cons seen i d low) ∙ bytes_split (get_or seen i d) (drop (suc i) seen)
    ∙ ap (λ l. l ++ bytes_in (drop (suc i) seen)) (sym is) ∙ ap (λ k. part ++ bytes_in (drop k seen)) next

-- eight bytes are filled from one part more
module _ (all part rest old new : List ℕ) (count r : ℕ) (is : r ≡ min (count + length part) 8) (left : (k : ℕ) → count + k < 8 → slice_index (part ++ rest) k ≡ slice_index all (count + k)) where
  pub filled_before : ((k : ℕ) → k < count → slice_index old k ≡ slice_index all k) → ((k : ℕ) → k < count → slice_index new k ≡ slice_index old k)
      → ((k : ℕ) → k < length part → count + k < 8 → slice_index new (count + k) ≡ slice_index part k) → (k : ℕ) → k < r → slice_index new k ≡ slice_index all k
  filled_before before kept put k low = elim (cases_lt k count) [ inl less ↦ kept k less ∙ before k less | inr more ↦ here (k - count) (omega (arith, more)) (omega (arith, more, low, is)) (omega (arith, more, low, is)) ] where
    here : (m : ℕ) → k ≡ count + m → m < length part → count + m < 8 → slice_index new k ≡ slice_index all k
    here m at within few =
        ap (slice_index new) at ∙ (put m within few ∙ (sym (get_or_append_left part rest 0 m within) ∙ (left m few ∙ ap (slice_index all) (sym at))))

  pub filled_left : (k : ℕ) → r + k < 8 → slice_index rest k ≡ slice_index all (r + k)
  filled_left k low =
      let at : r ≡ count + length part = omega (arith, is, low) in
      let place : length part + k - length part ≡ k = omega arith in
      let whole : count + (length part + k) ≡ r + k = omega (arith, at) in
      ap (slice_index rest) (sym place) ∙ (sym (get_or-append_right part rest (length part + k) 0 (omega arith)) ∙ (left (length part + k) (omega (arith, whole, low)) ∙ ap (slice_index all) whole))

pub filled : (all bytes : List ℕ) (count : ℕ) → ((k : ℕ) → k < count → slice_index bytes k ≡ slice_index all k) → ((k : ℕ) → count ≤ k → slice_index bytes k ≡ 0) → ((k : ℕ) → count + k < 8 → 0 ≡ slice_index all (count + k))
    → (k : ℕ) → k < 8 → slice_index bytes k ≡ slice_index all k
filled all bytes count before zeros left k low = elim (cases_lt k count) [ inl less ↦ before k less | inr more ↦ behind (k - count) (omega (arith, more)) more ] where
  behind : (m : ℕ) → k ≡ count + m → count ≤ k → slice_index bytes k ≡ slice_index all k
  behind m at more = zeros k more ∙ (left m (omega (arith, at, low)) ∙ ap (slice_index all) (sym at))

-- ---- one part alone

zeros_seen : (n k : ℕ) → slice_index (replicate n 0) k ≡ 0
zeros_seen zero k = refl
zeros_seen (suc n) zero = refl
zeros_seen (suc n) (suc k) = zeros_seen n k

-- bytes that are put in front of eight zeros
pub front_alone : (part new : List ℕ) (r : ℕ) → r ≡ min (0 + length part) 8 → length part ≤ 8 → ((k : ℕ) → k < length part → 0 + k < 8 → slice_index new (0 + k) ≡ slice_index part k)
    → ((k : ℕ) → r ≤ k → slice_index new k ≡ slice_index (replicate 8 0) k) → (k : ℕ) → k < 8 → slice_index new k ≡ slice_index part k
front_alone part new r is few put behind k low =
    elim (cases_lt k (length part)) [
      | inl less ↦ ap (slice_index new) (let same : k ≡ 0 + k = omega arith in same) ∙ put k less (omega (arith, low))
      | inr more ↦ behind k (omega (arith, is, few, more)) ∙ zeros_seen 8 k ∙ sym (get_or_past part k 0 more)
    ]
