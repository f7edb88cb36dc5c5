-- How many parts of a size a list has.
use Rattle.std.proofs.Common.{ℕ, ◌+◌, ◌-◌, ◌*◌, ◌/◌, ◌<◌, ◌≤◌, arith}
use Rattle.std.proofs.Math.Nat.{div-mul-le_self, mul-le-mul_right, mod-lt}
use Rattle.std.proofs.lemmas.Nat.{le-div, div-add-mod'}

-- a part that is counted begins before the end, but that of no entry
pub begins : (size n i : ℕ) → i < (n - 1) / size + 1 → i * size ≤ n - 1
begins size n i h =
    let a : i * size ≤ (n - 1) / size * size = mul-le-mul_right size (let b : i ≤ (n - 1) / size = omega (arith, h) in b) in
    omega (arith, a, div-mul-le_self (n - 1) size)

-- the part in which a place stands is counted
pub counted : (size n p : ℕ) → 0 < size → p < n → p / size < (n - 1) / size + 1
counted size n p some h =
    let a : p / size ≤ (n - 1) / size = le-div (p / size) (n - 1) size some (omega (arith, div-mul-le_self p size, h)) in
    omega (arith, a)

pub starts : (size p : ℕ) → p / size * size ≤ p
starts size p = div-mul-le_self p size

-- it stands below the size there
pub within : (size p : ℕ) → 0 < size → p - p / size * size < size
within size p some = omega (arith, div-add-mod' p size, mod-lt p some)
