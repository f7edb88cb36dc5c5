-- Bytes as they are quoted.
use Rattle.std.specs.Prelude.{ℕ, List, [], ◌++◌, cond, codes, length, nat_le, nat_lt, take}
use Rattle.std.specs.List.{flat_map}
use Rattle.std.specs.Char.{encode_utf8}

-- the character that stands for a byte: a visible one of ASCII or a space for itself, else `?`
abbrev pub shown : ℕ → ℕ
shown byte = cond (nat_le 32 byte) (cond (nat_le byte 126) byte 63) 63

-- what stands for the bytes behind the first 40
abbrev pub rest : List ℕ → List ℕ
rest bytes = cond (nat_lt 40 (length bytes)) (codes "..") []

-- the first 40 bytes, and `..` where there are more
abbrev pub quoted : List ℕ → List ℕ
quoted bytes = flat_map (λ byte. encode_utf8 (shown byte)) (take 40 bytes) ++ rest bytes
