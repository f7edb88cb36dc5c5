-- What the readers of LEB128 numbers answer is the relation of the standard, both ways.
use Rattle.std.proofs.Common.{◌≡◌, ℕ, ◌+◌, ◌-◌, ◌*◌, ◌^◌, ◌<◌, ◌≤◌, Bool, true, false, cond, ltb, leb, List, [], ◌∷◌, ◌++◌, length, take, drop, Option, Some, None, refl, sym, ap, subst, ◌∙◌, arith, inl, inr}
use Rattle.std.specs.Prelude.{ℤ, pos, negsuc, ◌+ℤ◌, ◌*ℤ◌, option_and_then, slice_range}
use Rattle.std.proofs.lemmas.Option.{option_and_then_some, some_pair_parts}
use Rattle.std.proofs.lemmas.Bool.{ltb-true, ltb-false, le-ltb, lt-ltb, leb-true, le-leb}
use Rattle.std.proofs.lemmas.List.{take-append-drop, length-append, length-drop, take_at}
use Rattle.wasm_types.specs.Leb128.{unsigned, LastSigned, signed}
use Rattle.wasm_types.specs.Leb128Reading.{unsigned_at, signed_at, fits_signed}

abbrev IsUnsigned : ℕ → List ℕ → ℕ → List ℕ → Type 0
IsUnsigned bits bytes n rest = (text : List ℕ) × (bytes ≡ text ++ rest) × unsigned bits n text

found_last : (bits b : ℕ) (bs : List ℕ) (n : ℕ) (rest : List ℕ) (u : Bool) → b < 128 → ltb b (2 ^ bits) ≡ u → cond {A = Option (ℕ × List ℕ)} u (Some (b, bs)) None ≡ Some (n, rest) → IsUnsigned bits (b ∷ bs) n rest
found_last bits b bs n rest true lt e h =
    let p = some_pair_parts b n bs rest h in
    (b ∷ [], ap (λ (r : List ℕ). b ∷ r) p.1, inl (lt, ltb-true _ _ e, sym p.0, refl))
found_last bits b bs n rest false lt e h = absurd cc

abbrev with_byte : ℕ → ℕ × List ℕ → Option (ℕ × List ℕ)
with_byte b high = Some (b - 128 + 128 * high.0, high.1)

found_more : (bits b : ℕ) (bs : List ℕ) (n : ℕ) (rest : List ℕ) (v : Bool) → 128 ≤ b → ltb 7 bits ≡ v → ((m : ℕ) (r : List ℕ) → unsigned_at (bits - 7) bs ≡ Some (m, r) → IsUnsigned (bits - 7) bs m r)
    → cond {A = Option (ℕ × List ℕ)} v (option_and_then (with_byte b) (unsigned_at (bits - 7) bs)) None ≡ Some (n, rest) → IsUnsigned bits (b ∷ bs) n rest
found_more bits b bs n rest true le e ih h =
    option_and_then_some (with_byte b) (unsigned_at (bits - 7) bs) (n, rest) h (λ x is made.
    let p = some_pair_parts (b - 128 + 128 * x.0) n x.1 rest made in
    let g = ih x.0 x.1 is in
    (b ∷ g.0, ap (λ (r : List ℕ). b ∷ r) (g.1 ∙ ap (λ (r : List ℕ). g.0 ++ r) p.1), inr (le, ltb-true _ _ e, x.0, g.2, omega (arith, p.0))))
found_more bits b bs n rest false le e ih h = absurd cc

found_by : (bits b : ℕ) (bs : List ℕ) (n : ℕ) (rest : List ℕ) (t : Bool) → ltb b 128 ≡ t → ((m : ℕ) (r : List ℕ) → unsigned_at (bits - 7) bs ≡ Some (m, r) → IsUnsigned (bits - 7) bs m r)
    → cond {A = Option (ℕ × List ℕ)} t (cond {A = Option (ℕ × List ℕ)} (ltb b (2 ^ bits)) (Some (b, bs)) None) (cond {A = Option (ℕ × List ℕ)} (ltb 7 bits) (option_and_then (with_byte b) (unsigned_at (bits - 7) bs)) None) ≡ Some (n, rest) → IsUnsigned bits (b ∷ bs) n rest
found_by bits b bs n rest true e ih h = found_last bits b bs n rest (ltb b (2 ^ bits)) (ltb-true _ _ e) refl h
found_by bits b bs n rest false e ih h = found_more bits b bs n rest (ltb 7 bits) (ltb-false _ _ e) refl ih h

pub unsigned_found : (bits : ℕ) (bytes : List ℕ) (n : ℕ) (rest : List ℕ) → unsigned_at bits bytes ≡ Some (n, rest) → IsUnsigned bits bytes n rest
unfolding unsigned_at
unsigned_found bits [] n rest e = absurd cc
unsigned_found bits (b ∷ bs) n rest e = found_by bits b bs n rest (ltb b 128) refl (unsigned_found (bits - 7) bs) e

pub unsigned_only : (bits n : ℕ) (text rest : List ℕ) → unsigned bits n text → unsigned_at bits (text ++ rest) ≡ Some (n, rest)
unfolding unsigned_at
unsigned_only bits n [] rest l = absurd l
unsigned_only bits n (b ∷ bs) rest (inl l) =
    let t : ltb b 128 ≡ true = lt-ltb _ _ l.0 in
    let u : ltb b (2 ^ bits) ≡ true = lt-ltb _ _ l.1 in
    rw (t, u, l.3, l.2) refl
unsigned_only bits n (b ∷ bs) rest (inr l) =
    let t : ltb b 128 ≡ false = le-ltb _ _ l.0 in
    let v : ltb 7 bits ≡ true = lt-ltb _ _ l.1 in
    let e : b - 128 + 128 * l.2 ≡ n = omega (arith, l.4, l.0) in
    rw (t, v, unsigned_only (bits - 7) l.2 bs rest l.3, e) refl

abbrev IsSigned : ℕ → List ℕ → ℤ → List ℕ → Type 0
IsSigned bits bytes z rest = (text : List ℕ) × (bytes ≡ text ++ rest) × signed bits z text

abbrev signed_low : ℕ → ℤ
signed_low b = cond (ltb b 64) (pos b) (pos b +ℤ negsuc 127)

last_signed : (bits b : ℕ) (bs : List ℕ) (t : Bool) → ltb b 64 ≡ t → b < 128 → cond t (ltb b (2 ^ (bits - 1))) (leb 128 (b + 2 ^ (bits - 1))) ≡ true → LastSigned bits (cond t (pos b) (pos b +ℤ negsuc 127)) b []
last_signed bits b bs true t lt e = inl (ltb-true _ _ t, ltb-true _ _ e, refl, refl)
last_signed bits b bs false t lt e = inr (ltb-false _ _ t, lt, leb-true _ _ e, refl, refl)

found_last_signed : (bits b : ℕ) (bs : List ℕ) (z : ℤ) (rest : List ℕ) (u : Bool) → b < 128 → fits_signed b bits ≡ u → cond {A = Option (ℤ × List ℕ)} u (Some (signed_low b, bs)) None ≡ Some (z, rest) → IsSigned bits (b ∷ bs) z rest
found_last_signed bits b bs z rest true lt e h =
    let p = some_pair_parts (signed_low b) z bs rest h in
    (b ∷ [], ap (λ (r : List ℕ). b ∷ r) p.1, inl (subst (λ (y : ℤ). LastSigned bits y b []) p.0 (last_signed bits b bs (ltb b 64) refl lt e)))
found_last_signed bits b bs z rest false lt e h = absurd cc

abbrev with_signed : ℕ → ℤ × List ℕ → Option (ℤ × List ℕ)
with_signed b high = Some (pos b +ℤ negsuc 127 +ℤ (pos 128 *ℤ high.0), high.1)

found_more_signed : (bits b : ℕ) (bs : List ℕ) (z : ℤ) (rest : List ℕ) (v : Bool) → 128 ≤ b → ltb 7 bits ≡ v → ((m : ℤ) (r : List ℕ) → signed_at (bits - 7) bs ≡ Some (m, r) → IsSigned (bits - 7) bs m r)
    → cond {A = Option (ℤ × List ℕ)} v (option_and_then (with_signed b) (signed_at (bits - 7) bs)) None ≡ Some (z, rest) → IsSigned bits (b ∷ bs) z rest
found_more_signed bits b bs z rest true le e ih h =
    option_and_then_some (with_signed b) (signed_at (bits - 7) bs) (z, rest) h (λ x is made.
    let p = some_pair_parts (pos b +ℤ negsuc 127 +ℤ (pos 128 *ℤ x.0)) z x.1 rest made in
    let g = ih x.0 x.1 is in
    (b ∷ g.0, ap (λ (r : List ℕ). b ∷ r) (g.1 ∙ ap (λ (r : List ℕ). g.0 ++ r) p.1), inr (le, ltb-true _ _ e, x.0, g.2, sym p.0)))
found_more_signed bits b bs z rest false le e ih h = absurd cc

found_by_signed : (bits b : ℕ) (bs : List ℕ) (z : ℤ) (rest : List ℕ) (t : Bool) → ltb b 128 ≡ t → ((m : ℤ) (r : List ℕ) → signed_at (bits - 7) bs ≡ Some (m, r) → IsSigned (bits - 7) bs m r)
    → cond {A = Option (ℤ × List ℕ)} t (cond {A = Option (ℤ × List ℕ)} (fits_signed b bits) (Some (signed_low b, bs)) None) (cond {A = Option (ℤ × List ℕ)} (ltb 7 bits) (option_and_then (with_signed b) (signed_at (bits - 7) bs)) None) ≡ Some (z, rest) → IsSigned bits (b ∷ bs) z rest
found_by_signed bits b bs z rest true e ih h = found_last_signed bits b bs z rest (fits_signed b bits) (ltb-true _ _ e) refl h
found_by_signed bits b bs z rest false e ih h = found_more_signed bits b bs z rest (ltb 7 bits) (ltb-false _ _ e) refl ih h

pub signed_found : (bits : ℕ) (bytes : List ℕ) (z : ℤ) (rest : List ℕ) → signed_at bits bytes ≡ Some (z, rest) → IsSigned bits bytes z rest
unfolding signed_at
signed_found bits [] z rest e = absurd cc
signed_found bits (b ∷ bs) z rest e = found_by_signed bits b bs z rest (ltb b 128) refl (signed_found (bits - 7) bs) e

pub signed_only : (bits : ℕ) (z : ℤ) (text rest : List ℕ) → signed bits z text → signed_at bits (text ++ rest) ≡ Some (z, rest)
unfolding signed_at
signed_only bits z [] rest l = absurd l
signed_only bits z (b ∷ bs) rest (inl (inl l)) =
    let t : ltb b 128 ≡ true = lt-ltb _ _ (omega (arith, l.0)) in
    let v : ltb b 64 ≡ true = lt-ltb _ _ l.0 in
    let u : ltb b (2 ^ (bits - 1)) ≡ true = lt-ltb _ _ l.1 in
    rw (t, v, u, l.3, l.2) refl
signed_only bits z (b ∷ bs) rest (inl (inr l)) =
    let t : ltb b 128 ≡ true = lt-ltb _ _ l.1 in
    let v : ltb b 64 ≡ false = le-ltb _ _ l.0 in
    let u : leb 128 (b + 2 ^ (bits - 1)) ≡ true = le-leb _ _ l.2 in
    let e = rw t at l.3 in
    rw (t, v, u, l.4, e) refl
signed_only bits z (b ∷ bs) rest (inr l) =
    let t : ltb b 128 ≡ false = le-ltb _ _ l.0 in
    let v : ltb 7 bits ≡ true = lt-ltb _ _ l.1 in
    let e = rw t at l.4 in
    rw (t, v, signed_only (bits - 7) l.2 bs rest l.3, e) refl

-- ---- a number at a place

pub place_found : (bits at : ℕ) (bytes : List ℕ) (n : ℕ) (rest : List ℕ) → at ≤ length bytes → unsigned_at bits (drop at bytes) ≡ Some (n, rest)
    → (length rest + at ≤ length bytes) × ((at ≤ length bytes - length rest) × (length bytes - length rest ≤ length bytes) × unsigned bits n (slice_range bytes at (length bytes - length rest)))
place_found bits at bytes n rest le e =
    let g = unsigned_found bits (drop at bytes) n rest e in
    let len : length bytes - at ≡ length g.0 + length rest = sym (length-drop at bytes) ∙ ap length g.1 ∙ length-append g.0 rest in
    let k : length bytes - length rest - at ≡ length g.0 = omega arith in
    let same : take (length bytes - length rest - at) (drop at bytes) ≡ g.0 = ap (λ (m : ℕ). take m (drop at bytes)) k ∙ ap (take (length g.0)) g.1 ∙ take_at g.0 rest (length g.0) refl in
    (omega arith, (omega arith, omega arith, subst (unsigned bits n) (sym same) g.2))

pub place_none : (bits at : ℕ) (bytes : List ℕ) → at ≤ length bytes → unsigned_at bits (drop at bytes) ≡ None
    → (n end : ℕ) → at ≤ end → end ≤ length bytes → unsigned bits n (slice_range bytes at end) → ⊥
place_none bits at bytes le e n end after within l =
    let k = unsigned_only bits n (take (end - at) (drop at bytes)) (drop (end - at) (drop at bytes)) l in
    let same : unsigned_at bits (drop at bytes) ≡ Some (n, drop (end - at) (drop at bytes)) = ap (unsigned_at bits) (sym (take-append-drop (end - at) (drop at bytes))) ∙ k in
    absurd cc

pub place_found_signed : (bits at : ℕ) (bytes : List ℕ) (z : ℤ) (rest : List ℕ) → at ≤ length bytes → signed_at bits (drop at bytes) ≡ Some (z, rest)
    → (length rest + at ≤ length bytes) × ((at ≤ length bytes - length rest) × (length bytes - length rest ≤ length bytes) × signed bits z (slice_range bytes at (length bytes - length rest)))
place_found_signed bits at bytes z rest le e =
    let g = signed_found bits (drop at bytes) z rest e in
    let len : length bytes - at ≡ length g.0 + length rest = sym (length-drop at bytes) ∙ ap length g.1 ∙ length-append g.0 rest in
    let k : length bytes - length rest - at ≡ length g.0 = omega arith in
    let same : take (length bytes - length rest - at) (drop at bytes) ≡ g.0 = ap (λ (m : ℕ). take m (drop at bytes)) k ∙ ap (take (length g.0)) g.1 ∙ take_at g.0 rest (length g.0) refl in
    (omega arith, (omega arith, omega arith, subst (signed bits z) (sym same) g.2))

pub place_none_signed : (bits at : ℕ) (bytes : List ℕ) → at ≤ length bytes → signed_at bits (drop at bytes) ≡ None
    → (z : ℤ) (end : ℕ) → at ≤ end → end ≤ length bytes → signed bits z (slice_range bytes at end) → ⊥
place_none_signed bits at bytes le e z end after within l =
    let k = signed_only bits z (take (end - at) (drop at bytes)) (drop (end - at) (drop at bytes)) l in
    let same : signed_at bits (drop at bytes) ≡ Some (z, drop (end - at) (drop at bytes)) = ap (signed_at bits) (sym (take-append-drop (end - at) (drop at bytes))) ∙ k in
    absurd cc
