-- How large draws are.
use Rattle.std.proofs.Common.{ℕ, zero, suc, ◌+◌, ◌*◌, ◌/◌, ◌^◌, ◌<◌, ◌≤◌, arith, lit<, lit≤}
use Rattle.std.proofs.Math.Nat.{div-lt_iff_lt-mul, mul-lt-mul_of_pos_right}
use Rattle.std.proofs.lemmas.Nat.{mul-lt}

-- the product of two words is below 2^64
pub product_fits : (word n : ℕ) → word < 4294967296 → n < 4294967296 → word * n < 18446744073709551616
product_fits word n a b = mul-lt word n 4294967296 4294967296 a b

-- a draw is below its bound
pub draw_few : (word n : ℕ) → word < 4294967296 → 0 < n → word * n / 4294967296 < n
draw_few word n a b = let k : word * n < 4294967296 * n = mul-lt-mul_of_pos_right a b in (div-lt_iff_lt-mul (lit< tt)).1 (omega (arith, k))

-- the powers of exponents
pub powers : (e : ℕ) → e < 7 → (2 ≤ 2 ^ (e + 1)) × (2 ^ (e + 1) ≤ 128)
powers zero h = (lit≤ tt, lit≤ tt)
powers (suc zero) h = (lit≤ tt, lit≤ tt)
powers (suc (suc zero)) h = (lit≤ tt, lit≤ tt)
powers (suc (suc (suc zero))) h = (lit≤ tt, lit≤ tt)
powers (suc (suc (suc (suc zero)))) h = (lit≤ tt, lit≤ tt)
powers (suc (suc (suc (suc (suc zero))))) h = (lit≤ tt, lit≤ tt)
powers (suc (suc (suc (suc (suc (suc zero)))))) h = (lit≤ tt, lit≤ tt)
powers (suc (suc (suc (suc (suc (suc (suc e))))))) h = absurd (omega arith)
