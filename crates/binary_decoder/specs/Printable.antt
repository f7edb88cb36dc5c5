-- Names that stand in one line, in one direction. The Unicode Standard, general categories Cc, Zl and Zp; Unicode Standard
-- Annex 9, section 2, explicit and implicit directional formatting characters.
use Rattle.std.specs.Prelude.{ℕ, ◌==◌, ◌&&◌, ◌||◌, nat_le, not, Bool, List}
use Rattle.std.specs.List.{list_all}
use Rattle.std.specs.Str.{chars}

abbrev pub is_between : ℕ → ℕ → ℕ → Bool
is_between first last c = nat_le first c && nat_le c last

-- Cc: U+0000 to U+001F, and U+007F to U+009F
abbrev pub is_control : ℕ → Bool
is_control c = is_between 0 31 c || is_between 127 159 c

-- Zl: U+2028, and Zp: U+2029
abbrev pub parts_lines : ℕ → Bool
parts_lines c = c == 8232 || c == 8233

-- embeddings and overrides U+202A to U+202E, and isolates U+2066 to U+2069
abbrev pub is_explicit_direction : ℕ → Bool
is_explicit_direction c = is_between 8234 8238 c || is_between 8294 8297 c

-- the Arabic letter mark U+061C, the left-to-right mark U+200E and the right-to-left mark U+200F
abbrev pub is_direction_mark : ℕ → Bool
is_direction_mark c = c == 1564 || (c == 8206 || c == 8207)

abbrev pub is_printable : ℕ → Bool
is_printable c = not (is_control c || (parts_lines c || (is_explicit_direction c || is_direction_mark c)))

-- a name of such characters alone, by the bytes that spell it in UTF-8
abbrev pub fits_line : List ℕ → Bool
fits_line name = list_all is_printable (chars name)
