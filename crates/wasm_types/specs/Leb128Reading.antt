-- Numbers in LEB128, read from left to right.
use Rattle.std.specs.Prelude.{Bool, ℤ, pos, negsuc, ◌+ℤ◌, ◌*ℤ◌, nat_le, nat_lt, ℕ, ◌+◌, ◌-◌, ◌*◌, ◌^◌, List, [], ◌∷◌, Option, Some, None, if◌then◌else◌, option_and_then}

-- the unsigned number of so many bits at the front, and what is behind it
unfoldable pub unsigned_at : ℕ → List ℕ → Option (ℕ × List ℕ)
unsigned_at bits [] = None
unsigned_at bits (b ∷ bs) =
    if nat_lt b 128 then (if nat_lt b (2 ^ bits) then Some (b, bs) else None)
    else (if nat_lt 7 bits then option_and_then (λ high. Some (b - 128 + 128 * high.0, high.1)) (unsigned_at (bits - 7) bs) else None)

-- whether a last byte is within so many bits, as a signed number
abbrev pub fits_signed : ℕ → ℕ → Bool
fits_signed b bits = if nat_lt b 64 then nat_lt b (2 ^ (bits - 1)) else nat_le 128 (b + 2 ^ (bits - 1))

-- the signed number of so many bits at the front, and what is behind it
unfoldable pub signed_at : ℕ → List ℕ → Option (ℤ × List ℕ)
signed_at bits [] = None
signed_at bits (b ∷ bs) =
    if nat_lt b 128 then (if fits_signed b bits then Some (if nat_lt b 64 then pos b else pos b +ℤ negsuc 127, bs) else None)
    else (if nat_lt 7 bits then option_and_then (λ high. Some (pos b +ℤ negsuc 127 +ℤ (pos 128 *ℤ high.0), high.1)) (signed_at (bits - 7) bs) else None)
