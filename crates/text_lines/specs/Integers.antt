-- Integers in decimal.
use Rattle.std.specs.Prelude.{ℕ, suc, ◌-◌, ◌^◌, ◌==◌, ◌&&◌, ◌||◌, Bool, false, not, ℤ, pos, negsuc, List, [], ◌∷◌, Option, Some, None, codes, drop, nat_lt, if◌then◌else◌}
use Rattle.std.specs.Char.{is_ascii_digit}
use Rattle.std.specs.List.{list_all}
use Rattle.std.specs.Str.{bytes_eq}
use Rattle.std.specs.Str.Parse.{starts_with_minus}

-- digits, the first of which isn't 0
abbrev pub is_positive : List ℕ → Bool
is_positive [] = false
is_positive (digit ∷ digits) = not (digit == 48) && list_all is_ascii_digit (digit ∷ digits)

abbrev pub without_minus : List ℕ → List ℕ
without_minus text = if starts_with_minus text then drop 1 text else text

-- the text of an integer: `0`, or perhaps `-` and then digits, the first of which isn't 0
abbrev pub is_decimal : List ℕ → Bool
is_decimal text = bytes_eq text (codes "0") || is_positive (without_minus text)

-- an integer from -2^(n-1) to 2^n - 1, modulo 2^n
abbrev pub bits_of : ℕ → ℤ → Option ℕ
bits_of n (pos number) = if nat_lt number (2 ^ n) then Some number else None
bits_of n (negsuc number) = if nat_lt number (2 ^ (n - 1)) then Some (2 ^ n - suc number) else None
