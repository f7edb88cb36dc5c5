-- Languages of bytes, and how a production puts them together. WebAssembly Core 1.0, binary format, conventions.
use Rattle.std.specs.Prelude.{◌≡◌, ℕ, ℤ, List, [], ◌∷◌, ◌++◌, length}
use Rattle.std.specs.Str.{IsUtf8}
use Rattle.wasm_types.specs.Leb128.{unsigned, signed}

-- a set of texts, a text being a list of bytes
abbrev pub Language : Type 1
Language = List ℕ → Type 0

-- the empty text alone
abbrev pub nothing : Language
nothing text = text ≡ []

-- every text
abbrev pub anything : Language
anything text = Unit {0}

-- one byte
abbrev pub byte : ℕ → Language
byte b text = text ≡ b ∷ []

-- these bytes
abbrev pub exactly : List ℕ → Language
exactly bytes text = text ≡ bytes

-- a text of the first, then a text of the second
infixr 5 ◌⨾◌
pub record ◌⨾◌ (first second : Language) (text : List ℕ) : Type 0 where
  pub front : List ℕ
  pub back : List ℕ
  pub parts : text ≡ front ++ back
  pub is_first : first front
  pub is_second : second back

-- a text of each item in turn
abbrev pub each : {X : Type 0} → (X → Language) → List X → Language
each item [] = nothing
each item (x ∷ xs) = item x ⨾ each item xs

abbrev pub u32 : ℕ → Language
u32 = unsigned 32

abbrev pub s32 : ℤ → Language
s32 = signed 32

abbrev pub s64 : ℤ → Language
s64 = signed 64

-- a count, and then that many items
abbrev pub vector : {X : Type 0} → (X → Language) → List X → Language
vector item xs = u32 (length xs) ⨾ each item xs

-- a vector of these bytes: their count, and the bytes
abbrev pub byte_vector : List ℕ → Language
byte_vector bytes = u32 (length bytes) ⨾ exactly bytes

-- a vector of bytes that are UTF-8
abbrev pub name : List ℕ → Language
name bytes text = IsUtf8 bytes × byte_vector bytes text

-- a size, and a content of exactly that many bytes
abbrev pub sized : Language → Language
sized inside text = (content : List ℕ) × inside content × byte_vector content text
