-- Numbers on the command line.
use Rattle.std.specs.Prelude.{ℕ, ◌&&◌, ◌||◌, ◌==◌, Bool, true, codes, slice_get, List, [], ◌∷◌, Option, Some, None, length, nat_lt, nat_le, if◌then◌else◌}
use Rattle.std.specs.Char.{is_ascii_digit}
use Rattle.std.specs.List.{list_all, starts_with}
use Rattle.std.specs.Str.Parse.{digits_value}
use Rattle.text_lines.specs.Parts.{parts}

-- decimal digits, one or more
abbrev pub has_digits_alone : List ℕ → Bool
has_digits_alone text = nat_lt 0 (length text) && list_all is_ascii_digit text

-- the number that decimal digits alone write, if it is at most so large
abbrev pub number_up_to : ℕ → List ℕ → Option ℕ
number_up_to most text = if has_digits_alone text && nat_le (digits_value 10 text) most then Some (digits_value 10 text) else None

abbrev pub in_front : {X : Type 0} → Option X → Option (List X) → Option (List X)
in_front (Some x) (Some xs) = Some (x ∷ xs)
in_front _ _ = None

-- the numbers of threads
abbrev pub threads_in : List (List ℕ) → Option (List ℕ)
threads_in [] = Some []
threads_in (part ∷ parts) = in_front (number_up_to 4294967295 part) (threads_in parts)

abbrev pub both : Option ℕ → Option ℕ → Option (ℕ × ℕ)
both (Some first) (Some second) = Some (first, second)
both _ _ = None

abbrev pub pair_of : List (List ℕ) → Option (ℕ × ℕ)
pair_of (first ∷ second ∷ []) = both (number_up_to 4294967295 first) (number_up_to 4294967295 second)
pair_of _ = None

-- the two numbers that a separator stands between
abbrev pub pair_in : ℕ → List ℕ → Option (ℕ × ℕ)
pair_in separator text = pair_of (parts separator text)

-- the numbers that stand between commas, at most 1,000,000 of them
abbrev pub order_in : List ℕ → Option (List ℕ)
order_in text = if nat_le (length (parts 44 text)) 1000000 then threads_in (parts 44 text) else None

-- one of these begins as the other does, as far as that goes
abbrev pub agree : List ℕ → List ℕ → Bool
agree text head = starts_with (λ a b. a == b) text head || starts_with (λ a b. a == b) head text

-- a digit of hexadecimal, in lower case
abbrev pub is_hex_digit : ℕ → Bool
is_hex_digit b = is_ascii_digit b || (nat_le 97 b && nat_le b 102)

abbrev pub begins_hex : Option ℕ → Bool
begins_hex None = true
begins_hex (Some b) = is_hex_digit b

-- a line of a report may begin so: it has an address in hexadecimal, or one of these two words
abbrev pub may_begin : List ℕ → Bool
may_begin text = begins_hex (slice_get text 0) || (agree text (codes "pages ") || agree text (codes "thread "))
