-- What it is that a reader answers by a language and limits.
use Rattle.std.proofs.Common.{◌≡◌, ℕ, List, ◌++◌, Result, Ok, Err}
use Rattle.binary_decoder.specs.Language.{Language}
use Rattle.binary_decoder.specs.Fault.{Fault, Malformed, Oversized, Reading}

-- a text of x at the front, with this rest, was answered, or was not for good reason
abbrev pub Told : {X : Type 0} → (X → Type 0) → Reading X → X → List ℕ → Type 0
Told within (Ok p) x rest = p ≡ (x, rest)
Told within (Err Malformed) x rest = ⊥
Told within (Err Oversized) x rest = within x → ⊥

-- what was answered is at the front
abbrev pub Found : {X : Type 0} → (X → Language) → (X → Type 0) → List ℕ → Reading X → Type 0
Found spells within bytes (Ok p) = (text : List ℕ) × (bytes ≡ text ++ p.1) × spells p.0 text × within p.0
Found spells within bytes (Err e) = Unit {0}

pub record Answers {X : Type 0} (spells : X → Language) (within : X → Type 0) (bytes : List ℕ) (r : Reading X) : Type 0 where
  pub found : Found spells within bytes r
  pub only : (x : X) (text rest : List ℕ) → spells x text → bytes ≡ text ++ rest → Told within r x rest

abbrev pub Exact : {X : Type 0} → (X → Language) → (X → Type 0) → (List ℕ → Reading X) → Type 0
Exact {X} spells within read = (bytes : List ℕ) → Answers {X = X} spells within bytes (read bytes)

-- ---- the same of a whole content

abbrev pub FoundAll : {X : Type 0} → (X → Language) → (X → Type 0) → List ℕ → Result X Fault → Type 0
FoundAll A W content (Ok x) = A x content × W x
FoundAll A W content (Err e) = Unit {0}

abbrev pub ToldAll : {X : Type 0} → (X → Type 0) → Result X Fault → X → Type 0
ToldAll W (Ok y) x = y ≡ x
ToldAll W (Err Malformed) x = ⊥
ToldAll W (Err Oversized) x = W x → ⊥

pub record AnswersAll {X : Type 0} (A : X → Language) (W : X → Type 0) (content : List ℕ) (r : Result X Fault) : Type 0 where
  pub found : FoundAll A W content r
  pub only : (x : X) → A x content → ToldAll W r x

abbrev pub ExactAll : {X : Type 0} → (X → Language) → (X → Type 0) → (List ℕ → Result X Fault) → Type 0
ExactAll {X} A W whole = (content : List ℕ) → AnswersAll {X = X} A W content (whole content)

-- no limits
abbrev pub always : {X : Type 0} → X → Type 0
always x = Unit {0}
