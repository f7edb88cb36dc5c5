-- Words of a line, and lines of a text.
use Rattle.std.specs.Prelude.{ℕ, ◌-◌, ◌==◌, List, [], Option, Some, None, length, take, slice_index, if◌then◌else◌, option_copied}
use Rattle.std.specs.List.{slice_split}
use Rattle.text_lines.specs.declared.parts.Parts.{Parts}

-- what stands between these bytes, one more than there are of them
abbrev pub parts : ℕ → List ℕ → List (List ℕ)
parts separator bytes = slice_split (λ b. b == separator) bytes

-- the words of a line: a single space stands between two
abbrev pub words : List ℕ → List (List ℕ)
words line = parts 32 line

-- without the line end that stands last, if one does
abbrev pub without_last_end : List ℕ → List ℕ
without_last_end text = if slice_index text (length text - 1) == 10 then take (length text - 1) text else text

-- the lines of a text, the last with or without its end; a text of no bytes is one empty line
abbrev pub lines : List ℕ → List (List ℕ)
lines text = parts 10 (without_last_end text)

abbrev pub parts_by : ℕ → Option (List ℕ) → List (List ℕ)
parts_by separator None = []
parts_by separator (Some bytes) = parts separator bytes

-- the parts that are still to come
abbrev pub parts_left : Parts → List (List ℕ)
parts_left p = parts_by p.separator (option_copied p.rest)
