-- How lines of a header come.
use Rattle.std.specs.Prelude.{◌≡◌, ◌≢◌, ℕ, ◌+◌, ◌≤◌, List, [], ◌∷◌, ◌++◌, All, length}
use Rattle.adapter_messages.specs.declared.header_line.Came.{Came}
use Rattle.adapter_messages.specs.declared.header_line.Came.TheVariants.{Line, Nothing, Part, TooLong, Failed}

-- no byte is a line feed
abbrev pub HasNoEnd : List ℕ → Type 0
HasNoEnd text = All (λ b. b ≢ 10) text

-- a line without its line feed, of at most 1,024 bytes and a carriage return
pub record IsLine (line : List ℕ) : Type 0 where
  pub has_no_end : HasNoEnd line
  pub is_short : length line ≤ 1025

-- bytes of a line came
pub record IsPart (brought : List ℕ → Type 0) (text : List ℕ) : Type 0 where
  pub has_no_end : HasNoEnd text
  pub came : brought text

-- What came, whether nothing more comes, whether fewer calls are left, and how many calls failed before and in all.
module _ (brought : List ℕ → Type 0) (ended fewer : Type 0) (before after : ℕ) where
  abbrev pub CameSo : Came → Type 0
  CameSo (Line line) = IsLine line.items × brought (line.items ++ 10 ∷ []) × fewer × (after ≡ before)
  CameSo Nothing = brought [] × ended × (after ≡ before)
  CameSo Part = (text : List ℕ) × IsPart brought text × (text ≢ []) × ended × (after ≡ before)
  CameSo TooLong = (text : List ℕ) × IsPart brought text × (length text ≡ 1026) × (after ≡ before)
  CameSo Failed = (text : List ℕ) × IsPart brought text × (after ≡ before + 1)
