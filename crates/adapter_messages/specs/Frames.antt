-- How messages are framed: Debug Adapter Protocol, "Base Protocol"
-- (https://microsoft.github.io/debug-adapter-protocol/overview#base-protocol).
use Rattle.std.specs.Prelude.{◌≡◌, ◌≢◌, ◌⊎◌, ⊤, ℕ, ◌+◌, ◌<◌, ◌≤◌, List, [], ◌∷◌, ◌++◌, All, Option, Some, None, Result, Ok, Err, codes, decimal, length}
use Rattle.std.specs.Prelude.{Vec}
use Rattle.std.specs.declared.alloc.Global.{Global}
use Rattle.std.specs.List.{filter_map, flat_map}
use Rattle.adapter_messages.specs.Fields.{field_in}
use Rattle.adapter_messages.specs.HeaderLines.{HasNoEnd, IsLine}
use Rattle.adapter_messages.specs.declared.fault.FrameFault.{FrameFault}
use Rattle.adapter_messages.specs.declared.fault.FrameFault.TheVariants as fault
use Rattle.adapter_messages.specs.declared.fields.Field.{Field}
use Rattle.adapter_messages.specs.declared.fields.Field.TheVariants.{End, Length, Other, TooLong, Broken}

-- the header of a content of so many bytes, and the empty line behind it
abbrev pub header_of : ℕ → List ℕ
header_of n = codes "Content-Length: " ++ decimal n ++ codes "\r\n\r\n"

abbrev pub frame_of : List ℕ → List ℕ
frame_of content = header_of (length content) ++ content

-- ---- what comes

-- lines, which have their carriage returns, with their line feeds
abbrev pub lines_text : List (List ℕ) → List ℕ
lines_text lines = flat_map (λ line. line ++ 10 ∷ []) lines

-- the length that a field gives
abbrev pub length_in : Field → Option ℕ
length_in End = None
length_in (Length n) = Some n
length_in Other = None
length_in TooLong = None
length_in Broken = None

-- a field that is no fault by itself
abbrev pub IsSound : Field → Type 0
IsSound End = ⊥
IsSound (Length n) = ⊤
IsSound Other = ⊤
IsSound TooLong = ⊥
IsSound Broken = ⊥

-- lines of fields, which give these lengths
pub record IsHeader (lines : List (List ℕ)) (lengths : List ℕ) : Type 0 where
  pub are_lines : All IsLine lines
  pub are_sound : All (λ line. IsSound (field_in line)) lines
  pub give : filter_map (λ line. length_in (field_in line)) lines ≡ lengths

-- a header that gives one length, an empty line, and a content of this length
pub record IsFrame (text content : List ℕ) : Type 0 where
  pub lines : List (List ℕ)
  pub header : IsHeader lines (length content ∷ [])
  pub is : text ≡ lines_text lines ++ 13 ∷ 10 ∷ content

-- ---- where a frame is not read

-- what breaks a header that gave these lengths: a line that is no field, a second length, or an end with none
abbrev pub Breaks : List ℕ → Field → Type 0
Breaks lengths End = lengths ≡ []
Breaks lengths (Length n) = lengths ≢ []
Breaks lengths Other = ⊥
Breaks lengths TooLong = ⊥
Breaks lengths Broken = ⊤

-- an empty line, and a part of a content, whose length fits so
abbrev pub IsContentPart : (ℕ → ℕ → Type 0) → (lengths last : List ℕ) → Type 0
IsContentPart Fits lengths last = (part : List ℕ) × (n : ℕ) × (last ≡ 13 ∷ 10 ∷ part) × (lengths ≡ n ∷ []) × Fits (length part) n

-- what came behind the lines of a header, where nothing more of the frame was read
abbrev pub Stops : FrameFault → (lengths last : List ℕ) → Type 0
Stops fault.SourceFailed lengths last = HasNoEnd last ⊎ IsContentPart (λ k n. k < n) lengths last
Stops fault.Ended lengths last = HasNoEnd last ⊎ IsContentPart (λ k n. k < n) lengths last
Stops fault.Broken lengths last = (line : List ℕ) × (last ≡ line ++ 10 ∷ []) × Breaks lengths (field_in line)
Stops fault.TooLong lengths last = (HasNoEnd last × (length last ≡ 1026)) ⊎ ((line : List ℕ) × (last ≡ line ++ 10 ∷ []) × (field_in line ≡ TooLong))
Stops fault.NoMemory lengths last = IsContentPart (λ k n. k ≤ n) lengths last

-- how many calls of the source failed
abbrev pub failures_of : FrameFault → ℕ
failures_of fault.SourceFailed = 1
failures_of fault.Ended = 0
failures_of fault.Broken = 0
failures_of fault.TooLong = 0
failures_of fault.NoMemory = 0

-- that something came, and nothing more does
abbrev pub EndsWithin : FrameFault → Type 0 → List ℕ → Type 0
EndsWithin fault.SourceFailed ended text = ⊤
EndsWithin fault.Ended ended text = (text ≢ []) × ended
EndsWithin fault.Broken ended text = ⊤
EndsWithin fault.TooLong ended text = ⊤
EndsWithin fault.NoMemory ended text = ⊤

-- the bytes that came before a fault
pub record IsStopped (ended : Type 0) (f : FrameFault) (text : List ℕ) : Type 0 where
  pub lines : List (List ℕ)
  pub lengths : List ℕ
  pub last : List ℕ
  pub header : IsHeader lines lengths
  pub stops : Stops f lengths last
  pub is : text ≡ lines_text lines ++ last
  pub ends_within : EndsWithin f ended text

-- ---- what the parts of a frame bring

-- What came, and whether nothing more comes.
module _ (brought : List ℕ → Type 0) (ended : Type 0) where
  -- so a content of n bytes is left, of which k came
  abbrev pub LeavesOff : FrameFault → (k n : ℕ) → Type 0
  LeavesOff fault.SourceFailed k n = k < n
  LeavesOff fault.Ended k n = (k < n) × ended
  LeavesOff fault.Broken k n = ⊥
  LeavesOff fault.TooLong k n = ⊥
  LeavesOff fault.NoMemory k n = k ≤ n

  -- a part of a content of n bytes came
  pub record IsLeft (n : ℕ) (f : FrameFault) : Type 0 where
    pub part : List ℕ
    pub came : brought part
    pub leaves_off : LeavesOff f (length part) n

-- Whether fewer calls are left too, and how many calls failed before and in all.
module _ (brought : List ℕ → Type 0) (ended fewer : Type 0) (before after : ℕ) where
  -- a content of n bytes
  abbrev pub ContentSo : ℕ → Result (Vec ℕ Global) FrameFault → Type 0
  ContentSo n (Ok content) = brought content.items × (length content.items ≡ n) × fewer × (after ≡ before)
  ContentSo n (Err f) = IsLeft brought ended n f × (after ≡ before + failures_of f)

  -- a header and the empty line behind it, which give a length
  pub record IsGiven (n : ℕ) : Type 0 where
    pub lines : List (List ℕ)
    pub header : IsHeader lines (n ∷ [])
    pub came : brought (lines_text lines ++ 13 ∷ 10 ∷ [])

  abbrev pub HeaderSo : Result (Option ℕ) FrameFault → Type 0
  HeaderSo (Ok (Some n)) = IsGiven n × fewer × (after ≡ before)
  HeaderSo (Ok None) = brought [] × ended × (after ≡ before)
  HeaderSo (Err f) = (text : List ℕ) × IsStopped ended f text × brought text × (after ≡ before + failures_of f)

-- how many calls of the source failed, by what came of a frame
abbrev pub failures_in : {X : Type 0} → Result X FrameFault → ℕ
failures_in (Ok x) = 0
failures_in (Err f) = failures_of f
