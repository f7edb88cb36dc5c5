-- Numbers cut into parts of one size.
use Rattle.std.proofs.Common.{◌≡◌, ℕ, ◌+◌, ◌-◌, ◌*◌, ◌≤◌, min, arith, mul-le-mul_right}

-- a part more
more_by : (parts size : ℕ) → (parts + 1) * size ≡ parts * size + size
more_by parts size = omega arith

-- the numbers of the parts, and those of one part behind them
pub part_behind : (parts size count : ℕ) → min (parts * size) count + (min ((parts + 1) * size) count - min (parts * size) count) ≡ min ((parts + 1) * size) count
part_behind parts size count = let k = more_by parts size in omega (arith, k)

fewer_by : (parts left size : ℕ) → (parts - left) * size ≤ parts * size
fewer_by parts left size = mul-le-mul_right size (omega arith)

-- the numbers of the parts before some that are left, and those behind
pub parts_left : (parts left size count : ℕ) → min ((parts - left) * size) count + (min (parts * size) count - min ((parts - left) * size) count) ≡ min (parts * size) count
parts_left parts left size count = let k = fewer_by parts left size in omega (arith, k)
