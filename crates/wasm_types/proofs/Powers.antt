-- Powers of two, seven bits apart.
use Rattle.std.proofs.Common.{◌≡◌, ℕ, ◌+◌, ◌-◌, ◌*◌, ◌^◌, ◌<◌, ◌≤◌, Bool, true, false, ltb, leb, cond, refl, sym, ap, ◌∙◌, arith}
use Rattle.wasm_types.specs.Leb128Reading.{fits_signed}
use Rattle.std.proofs.Math.Pow.{pow_mono}
use Rattle.std.proofs.lemmas.Nat.{pow-add}
use Rattle.std.proofs.lemmas.Bool.{lt-ltb, le-leb, ltb-true, ltb-false}

pub seven_less : (bits : ℕ) → 7 ≤ bits → 2 ^ bits ≡ 128 * 2 ^ (bits - 7)
seven_less bits h =
    let e : bits ≡ 7 + (bits - 7) = omega arith in
    ap (λ (x : ℕ). 2 ^ x) e ∙ pow-add 2 7 (bits - 7)

pub within_seven : (byte bits : ℕ) → byte < 128 → 7 ≤ bits → byte < 2 ^ bits
within_seven byte bits lt h =
    let p : 2 ^ 7 ≤ 2 ^ bits = pow_mono h in
    omega arith

pub number_below : (byte high bits : ℕ) → byte < 256 → 128 ≤ byte → 7 ≤ bits → high < 2 ^ (bits - 7) → byte - 128 + 128 * high < 2 ^ bits
number_below byte high bits b ge h lt = let e = seven_less bits h in omega arith

-- bounds of the bits that are left
pub high_below : (high bits : ℕ) → 7 ≤ bits → bits ≤ 64 → high < 2 ^ (bits - 7) → 128 * high + 128 ≤ 2 ^ 64
high_below high bits h le lt = let e = seven_less bits h in let p : 2 ^ bits ≤ 2 ^ 64 = pow_mono le in omega arith

pub is_within_true : (byte bits : ℕ) → byte < 128 → 7 ≤ bits → leb 7 bits ≡ ltb byte (2 ^ bits)
is_within_true byte bits lt h = le-leb 7 bits h ∙ sym (lt-ltb byte (2 ^ bits) (within_seven byte bits lt h))

pub half_less : (bits : ℕ) → 7 < bits → 2 ^ (bits - 1) ≡ 128 * 2 ^ (bits - 7 - 1)
half_less bits h =
    let e : bits - 1 ≡ 7 + (bits - 7 - 1) = omega arith in
    ap (λ (x : ℕ). 2 ^ x) e ∙ pow-add 2 7 (bits - 7 - 1)

pub half_below : (bits : ℕ) → bits ≤ 64 → 2 ^ (bits - 1) ≤ 2 ^ 63
half_below bits h = let k : bits - 1 ≤ 63 = omega arith in pow_mono k

pub half_most : (bits : ℕ) → 7 ≤ bits → 64 ≤ 2 ^ (bits - 1)
half_most bits h = let k : 6 ≤ bits - 1 = omega arith in let p : 2 ^ 6 ≤ 2 ^ (bits - 1) = pow_mono k in p

fits_by : (byte bits : ℕ) (t : Bool) → ltb byte 64 ≡ t → byte < 128 → 64 ≤ 2 ^ (bits - 1) → cond t (ltb byte (2 ^ (bits - 1))) (leb 128 (byte + 2 ^ (bits - 1))) ≡ true
fits_by byte bits true e lt p = lt-ltb _ _ (omega (arith, ltb-true _ _ e))
fits_by byte bits false e lt p = le-leb _ _ (omega (arith, ltb-false _ _ e))

pub signed_fits : (byte bits : ℕ) → byte < 128 → 7 ≤ bits → leb 7 bits ≡ fits_signed byte bits
signed_fits byte bits lt h = let p = half_most bits h in le-leb 7 bits h ∙ sym (fits_by byte bits (ltb byte 64) refl lt p)
