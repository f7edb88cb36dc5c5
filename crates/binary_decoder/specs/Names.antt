-- The names of functions. WebAssembly Core, appendix, custom sections: the name section is the custom section titled "name".
-- It has subsections, and the one with id 1 has the name map of functions, which is a vector of an index and a name each.
-- A module whose name section is damaged is a module nonetheless: what stands before the damage counts.
use Rattle.std.specs.Prelude.{ℕ, zero, suc, List, [], ◌∷◌, Option, Some, None, Ok, Err, codes, cond, drop, length, ◌==◌}
use Rattle.std.specs.Str.{bytes_eq}
use Rattle.binary_decoder.specs.Fault.{Reading}
use Rattle.binary_decoder.specs.Reading.{first_at, u32_at, byte_vector_at, name_at, then_at}
use Rattle.binary_decoder.specs.declared.name_parts.Wanted.{Wanted}
use Rattle.binary_decoder.specs.declared.name_parts.Wanted.TheVariants.{NameSection, FunctionNames}

-- an item, and those behind it
abbrev pub with_next : {X : Type 0} → Reading X → (List ℕ → List X) → List X
with_next (Err e) items = []
with_next (Ok p) items = p.0 ∷ items p.1

-- the items at the front, one behind the other up to the first that is damaged, and so many at most
unfoldable pub whole_items : {X : Type 0} → (List ℕ → Reading X) → ℕ → List ℕ → List X
whole_items item zero bytes = []
whole_items item (suc n) bytes = with_next (item bytes) (whole_items item n)

-- ---- sections and subsections

-- an id, and a content with its size
unfoldable pub part_at : List ℕ → Reading (ℕ × List ℕ)
part_at = then_at first_at (λ _. byte_vector_at)

-- each part has a byte at least
abbrev pub parts_of : List ℕ → List (ℕ × List ℕ)
parts_of bytes = whole_items part_at (length bytes) bytes

-- what stands behind the title
abbrev pub behind_title : Reading (List ℕ) → Option (List ℕ)
behind_title (Err e) = None
behind_title (Ok p) = cond (bytes_eq p.0 (codes "name")) (Some p.1) None

-- custom sections have id 0
abbrev pub content_of : Wanted → ℕ × List ℕ → Option (List ℕ)
content_of NameSection p = cond (p.0 == 0) (behind_title (name_at p.1)) None
content_of FunctionNames p = cond (p.0 == 1) (Some p.1) None

abbrev pub or_behind : Option (List ℕ) → Option (List ℕ) → Option (List ℕ)
or_behind None other = other
or_behind (Some content) other = Some content

-- the content of the first part that is wanted
abbrev pub first_content : Wanted → List (ℕ × List ℕ) → Option (List ℕ)
first_content wanted [] = None
first_content wanted (p ∷ ps) = or_behind (content_of wanted p) (first_content wanted ps)

-- ---- the name map

-- the index of a function, and its name
unfoldable pub entry_at : List ℕ → Reading (ℕ × List ℕ)
entry_at = then_at u32_at (λ _. name_at)

abbrev pub entries_by : Reading ℕ → List (ℕ × List ℕ)
entries_by (Err e) = []
entries_by (Ok p) = whole_items entry_at p.0 p.1

abbrev pub entries_of : List ℕ → List (ℕ × List ℕ)
entries_of bytes = entries_by (u32_at bytes)

-- the name that the last entry of a function gives to it, or else this one
abbrev pub named_or : Option (List ℕ) → ℕ → List (ℕ × List ℕ) → Option (List ℕ)
named_or name function [] = name
named_or name function (e ∷ es) = named_or (cond (e.0 == function) (Some e.1) name) function es

-- ---- the name of a function

abbrev pub name_in_map : Option (List ℕ) → ℕ → Option (List ℕ)
name_in_map None function = None
name_in_map (Some content) function = named_or None function (entries_of content)

abbrev pub name_in_section : Option (List ℕ) → ℕ → Option (List ℕ)
name_in_section None function = None
name_in_section (Some content) function = name_in_map (first_content FunctionNames (parts_of content)) function

-- the name that a module's bytes give to a function; the preamble has eight bytes
abbrev pub function_name : List ℕ → ℕ → Option (List ℕ)
function_name bytes function = name_in_section (first_content NameSection (parts_of (drop 8 bytes))) function
