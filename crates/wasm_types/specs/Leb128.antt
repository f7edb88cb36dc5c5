-- Numbers in LEB128. WebAssembly Core 1.0, binary format, integers.
use Rattle.std.specs.Prelude.{◌≡◌, ℕ, ◌+◌, ◌-◌, ◌*◌, ◌^◌, ◌<◌, ◌≤◌, List, [], ◌∷◌, ◌⊎◌, ℤ, pos, negsuc, ◌+ℤ◌, ◌*ℤ◌, ◌≤ℤ◌, ◌<ℤ◌}

-- the last byte of an unsigned number of so many bits
abbrev pub LastUnsigned : ℕ → ℕ → ℕ → List ℕ → Type 0
LastUnsigned bits n b bs = (b < 128) × (b < 2 ^ bits) × (n ≡ b) × (bs ≡ [])

-- The bytes spell this unsigned number of so many bits: a byte below 128 is the last one; a byte from 128 on has the
-- low seven bits, and the bytes behind it spell the rest, of seven bits less.
abbrev pub unsigned : ℕ → ℕ → List ℕ → Type 0
unsigned bits n [] = ⊥
unsigned bits n (b ∷ bs) =
    LastUnsigned bits n b bs ⊎ ((128 ≤ b) × (7 < bits) × (high : ℕ) × unsigned (bits - 7) high bs × (n + 128 ≡ b + 128 * high))

-- from - 2 ^ (bits - 1) on, and below 2 ^ (bits - 1)
pub record FitsBits (bits : ℕ) (z : ℤ) : Type 0 where
  pub low : pos 0 ≤ℤ (z +ℤ pos (2 ^ (bits - 1)))
  pub high : z <ℤ pos (2 ^ (bits - 1))

-- the last byte of a signed number of so many bits: from 64 on it stands for itself less 128
abbrev pub LastSigned : ℕ → ℤ → ℕ → List ℕ → Type 0
LastSigned bits z b bs =
    ((b < 64) × (b < 2 ^ (bits - 1)) × (z ≡ pos b) × (bs ≡ [])) ⊎ ((64 ≤ b) × (b < 128) × (128 ≤ b + 2 ^ (bits - 1)) × (z ≡ pos b +ℤ negsuc 127) × (bs ≡ []))

-- The bytes spell this signed number of so many bits, as above but for the last byte.
abbrev pub signed : ℕ → ℤ → List ℕ → Type 0
signed bits z [] = ⊥
signed bits z (b ∷ bs) =
    LastSigned bits z b bs ⊎ ((128 ≤ b) × (7 < bits) × (high : ℤ) × signed (bits - 7) high bs × (z ≡ pos b +ℤ negsuc 127 +ℤ (pos 128 *ℤ high)))
