-- The validator's two stacks, which have the operands and the open blocks of all frames one behind the other.
use Rattle.std.specs.Prelude.{◌≡◌, ℕ, Bool, true, false, List, [], ◌∷◌, ◌++◌, Option, Some, None, reverse, take, length, map, MatchOption}
use Rattle.wasm_types.specs.declared.value.ValType.{ValType}
use Rattle.wasm_types.specs.declared.nesting.Enclosing.{Enclosing}
use Rattle.validator.specs.declared.stacks.Next.{Next}
use Rattle.validator.specs.declared.stacks.OpenBlock.{OpenBlock}
use Rattle.validator.specs.declared.stacks.TypeStacks.{TypeStacks}
use Rattle.validator.specs.Table.{Class, seq}
use Rattle.validator.specs.Walk.{Operand, Frame, step_by, pop_any, pop_all, closed}

-- the operands of all frames, the topmost first
abbrev pub flat : List Frame → List Operand
flat [] = []
flat (f ∷ fs) = f.stack ++ flat fs

-- a frame without its operands, and the number of those below
pub record Shape : Type 0 where
  pub enclosing : Enclosing
  pub label : List ValType
  pub result : List ValType
  pub height : ℕ
  pub unreachable : Bool

abbrev pub shape_of : OpenBlock → Shape
shape_of b = record { enclosing = b.enclosing; label = seq b.label; result = seq b.result; height = b.height; unreachable = b.unreachable }

abbrev pub shape : Frame → ℕ → Shape
shape f height = record { enclosing = f.enclosing; label = f.label; result = f.result; height = height; unreachable = f.unreachable }

abbrev pub shapes : List Frame → List Shape
shapes [] = []
shapes (f ∷ fs) = shape f (length (flat fs)) ∷ shapes fs

-- the stacks have these frames, the innermost last
pub record Stands (fs : List Frame) (operands : List Operand) (blocks : List OpenBlock) : Type 0 where
  pub operands_are : reverse operands ≡ flat fs
  pub blocks_are : map shape_of (reverse blocks) ≡ shapes fs

abbrev pub Stand : List Frame → TypeStacks → Type 0
Stand fs s = Stands fs s.operands.items s.blocks.items

abbrev pub no_frame : List Frame → Bool
no_frame [] = true
no_frame (f ∷ fs) = false

-- the innermost block is that of the first frame
abbrev pub IsInnermost : Option OpenBlock → List Frame → Type 0
IsInnermost None [] = Unit {0}
IsInnermost None (f ∷ fs) = ⊥
IsInnermost (Some b) [] = ⊥
IsInnermost (Some b) (f ∷ fs) = shape_of b ≡ shape f (length (flat fs))

-- what is popped from the operands above a height: some are left, or it can't be popped
abbrev pub Pops : (List Operand → Option (List Operand)) → ℕ → Bool → List Operand → List Operand → Type 0
Pops pop height true old new = (os below : List Operand) → reverse old ≡ os ++ below → length below ≡ height → (left : List Operand) × (pop os ≡ Some left) × (reverse new ≡ left ++ below)
Pops pop height false old new = (os below : List Operand) → reverse old ≡ os ++ below → length below ≡ height → pop os ≡ None

-- the same of one operand of any type
abbrev pub PopsAny : Bool → ℕ → Option Operand → List Operand → List Operand → Type 0
PopsAny unreachable height popped old new = (os below : List Operand) → reverse old ≡ os ++ below → length below ≡ height
    → MatchOption popped (pop_any unreachable os ≡ None) (λ o. (left : List Operand) × (pop_any unreachable os ≡ Some (o, left)) × (reverse new ≡ left ++ below))

-- what is popped from so many of the lower operands leaves so many of them
abbrev pub PopsTo : (List Operand → Option (List Operand)) → ℕ → List Operand → ℕ → Option ℕ → Type 0
PopsTo pop height operands count None = Pops pop height false (take count operands) []
PopsTo pop height operands count (Some left) = Pops pop height true (take count operands) (take left operands)

-- the same of one operand of any type
abbrev pub PopsAnyTo : Bool → ℕ → List Operand → ℕ → Option Next → Type 0
PopsAnyTo unreachable height operands count None = PopsAny unreachable height None (take count operands) []
PopsAnyTo unreachable height operands count (Some next) = PopsAny unreachable height (Some next.operand) (take count operands) (take next.left operands)

-- the result of a block is popped, and it was all that stood above the block's height
abbrev pub TakesResult : OpenBlock → Bool → List Operand → List Operand → Type 0
TakesResult b done old new = (os below : List Operand) → reverse old ≡ os ++ below → length below ≡ b.height
    → (closed (pop_all b.unreachable (seq b.result) os) ≡ done) × (done ≡ true → reverse new ≡ below)

-- an instruction of a class leads from the frames of the old stacks to those of the new
abbrev pub Goes : (List Frame → Class) → TypeStacks → TypeStacks → Type 0
Goes class old new = (f : Frame) (fs : List Frame) → Stand (f ∷ fs) old → (gs : List Frame) × (step_by (class (f ∷ fs)) f fs ≡ Some gs) × Stand gs new

-- an instruction of a class suits no frames of the stacks
abbrev pub Stops : (List Frame → Class) → TypeStacks → Type 0
Stops class old = (f : Frame) (fs : List Frame) → Stand (f ∷ fs) old → step_by (class (f ∷ fs)) f fs ≡ None
