-- Which block a byte stands in.
use Rattle.std.proofs.Common.{ℕ, ◌+◌, ◌*◌, ◌/◌, ◌^◌, ◌<◌, ◌≤◌, arith}
use Rattle.std.proofs.Math.Pow.{pow_mono}
use Rattle.std.proofs.Math.Nat.{mul-le-mul_left, div-le_of_le-mul}
use Rattle.std.proofs.lemmas.Nat.{shr_below}

-- blocks have at least 2 ^ 6 bytes
pub index_below : (n p : ℕ) → 6 ≤ p → n < 2 ^ 33 → n / 2 ^ p < 2 ^ 27
index_below n p low h =
    let le : 33 ≤ 27 + p = omega arith in
    let up : 2 ^ 33 ≤ 2 ^ (27 + p) = pow_mono le in
    let below : n < 2 ^ (27 + p) = omega (arith, up, h) in
    shr_below n 27 p below

-- a memory of at most 65536 pages has at most 2 ^ 26 blocks
pub few_blocks : (n p : ℕ) → 6 ≤ p → n ≤ 2 ^ 32 → n / 2 ^ p ≤ 2 ^ 26
few_blocks n p low h =
    let lower : 2 ^ 6 ≤ 2 ^ p = pow_mono low in
    let pos : 0 < 2 ^ p = omega (arith, lower) in
    let up : n ≤ 2 ^ 26 * 2 ^ p = omega (arith, mul-le-mul_left (2 ^ 26) lower, h) in
    div_least pos up where
      div_least : 0 < 2 ^ p → n ≤ 2 ^ 26 * 2 ^ p → n / 2 ^ p ≤ 2 ^ 26
      div_least pos up = let swap : n ≤ 2 ^ p * 2 ^ 26 = omega (arith, up) in div-le_of_le-mul (2 ^ p) swap
