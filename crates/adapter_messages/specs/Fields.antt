-- Lines of a header: Debug Adapter Protocol, "Base Protocol", which follows RFC 7230, 3.2, "Header Fields".
use Rattle.std.specs.Prelude.{ℕ, ◌+◌, ◌-◌, ◌==◌, ◌&&◌, Bool, false, List, [], ◌∷◌, Option, Some, None, codes, drop, map, length, nat_le, nat_lt, position, slice_index, take, if◌then◌else◌}
use Rattle.std.specs.Char.{is_ascii_digit, to_ascii_lowercase}
use Rattle.std.specs.List.{list_all}
use Rattle.std.specs.Str.{bytes_eq}
use Rattle.std.specs.Str.Parse.{digits_value}
use Rattle.adapter_messages.specs.declared.fields.Field.{Field}
use Rattle.adapter_messages.specs.declared.fields.Field.TheVariants.{End, Length, Other, TooLong, Broken}

-- one digit or more
abbrev pub is_numeral : List ℕ → Bool
is_numeral [] = false
is_numeral (digit ∷ digits) = list_all is_ascii_digit (digit ∷ digits)

-- the length that digits give, up to the largest that is taken
abbrev pub length_of : List ℕ → Field
length_of digits = if is_numeral digits then (if nat_le (digits_value 10 digits) 1048576 then Length (digits_value 10 digits) else TooLong) else Broken

-- a name in any case of letters, and a value, where a space may stand first
abbrev pub named : (name value : List ℕ) → Field
named name value = if bytes_eq (map to_ascii_lowercase name) (codes "content-length") then length_of (drop (if slice_index value 0 == 32 then 1 else 0) value) else Other

abbrev pub split_field : List ℕ → Option ℕ → Field
split_field line None = Broken
split_field line (Some colon) = named (take colon line) (drop (colon + 1) line)

-- a line without its end: a name, a colon and a value
abbrev pub field_of : List ℕ → Field
field_of [] = End
field_of (b ∷ bs) = split_field (b ∷ bs) (position (λ c. c == 58) (b ∷ bs))

-- a line with the carriage return that stands before its line feed
abbrev pub field_in : List ℕ → Field
field_in line = if nat_lt 0 (length line) && (slice_index line (length line - 1) == 13) then field_of (take (length line - 1) line) else Broken
