-- The check from left to right, with the blocks that are open and the operands of each. WebAssembly Core 1.0, appendix,
-- validation algorithm. A stack has its top first.
use Rattle.std.specs.Prelude.{◌≡◌, Bool, true, false, List, [], ◌∷◌, ◌++◌, Option, Some, None, reverse}
use Rattle.wasm_types.specs.declared.value.ValType.{ValType}
use Rattle.wasm_types.specs.declared.value.ValType.TheVariants.{I32}
use Rattle.wasm_types.specs.declared.instruction.Instr.{Instr}
use Rattle.wasm_types.specs.declared.nesting.Enclosing.{Enclosing}
use Rattle.wasm_types.specs.declared.nesting.Enclosing.TheVariants.{FirstArm, Whole}
use Rattle.validator.specs.Context.{Context, with_labels}
use Rattle.wasm_types.specs.Values.{same_type}
use Rattle.validator.specs.Table.{Class, Fixed, Discards, Selects, Leaves, Enters, Turning, Ending, Wrong, class_of}

-- an operand's type, or None for any type
abbrev pub Operand : Type 0
Operand = Option ValType

-- a block that is open; from an unreachable place its operands may come from nothing
pub record Frame : Type 0 where
  pub enclosing : Enclosing
  pub label : List ValType
  pub result : List ValType
  pub stack : List Operand
  pub unreachable : Bool

abbrev pub with_stack : List Operand → Frame → Frame
with_stack s f = record { enclosing = f.enclosing; label = f.label; result = f.result; stack = s; unreachable = f.unreachable }

-- behind a place that isn't left downwards
abbrev pub made_unreachable : Frame → Frame
made_unreachable f = record { enclosing = f.enclosing; label = f.label; result = f.result; stack = []; unreachable = true }

abbrev pub opened : Enclosing → List ValType → List ValType → Frame
opened enclosing label result = record { enclosing = enclosing; label = label; result = result; stack = []; unreachable = false }

abbrev pub then_if : {X Y : Type 0} → Option X → (X → Option Y) → Option Y
then_if None f = None
then_if (Some x) f = f x

abbrev pub only : {X : Type 0} → Bool → X → Option X
only false x = None
only true x = Some x

-- an operand where one of this type is wanted
abbrev pub agrees : ValType → Operand → Bool
agrees t None = true
agrees t (Some u) = same_type u t

abbrev pub pop_one : Bool → ValType → List Operand → Option (List Operand)
pop_one unreachable t [] = only unreachable []
pop_one unreachable t (o ∷ os) = only (agrees t o) os

-- these types, the topmost first
abbrev pub pop_all : Bool → List ValType → List Operand → Option (List Operand)
pop_all unreachable [] os = Some os
pop_all unreachable (t ∷ ts) os = then_if (pop_one unreachable t os) (pop_all unreachable ts)

abbrev pub pop_any : Bool → List Operand → Option (Operand × List Operand)
pop_any true [] = Some (None, [])
pop_any false [] = None
pop_any unreachable (o ∷ os) = Some (o, os)

-- the one type that two operands have
abbrev pub meet : Operand → Operand → Option Operand
meet None o = Some o
meet (Some t) None = Some (Some t)
meet (Some t) (Some u) = only (same_type t u) (Some t)

abbrev pub known : List ValType → List Operand
known [] = []
known (t ∷ ts) = Some t ∷ known ts

abbrev pub emptied : List Operand → Bool
emptied [] = true
emptied (o ∷ os) = false

-- the block's result is all that stands there
abbrev pub closed : Option (List Operand) → Bool
closed None = false
closed (Some os) = emptied os

abbrev pub give : List ValType → List Frame → List Frame
give ts [] = []
give ts (f ∷ fs) = with_stack (known ts ++ f.stack) f ∷ fs

-- an `if` without an `else` leaves nothing
abbrev pub may_end : Enclosing → List ValType → Bool
may_end Whole ts = true
may_end FirstArm [] = true
may_end FirstArm (t ∷ ts) = false

abbrev pub may_turn : Enclosing → Bool
may_turn Whole = false
may_turn FirstArm = true

abbrev pub both : Bool → Bool → Bool
both false b = false
both true b = b

abbrev pub select_by : Bool → List Operand → Option (List Operand)
select_by unreachable os = then_if (pop_any unreachable os) (λ p. then_if (pop_any unreachable p.1) (λ q. then_if (meet p.0 q.0) (λ o. Some (o ∷ q.1))))

-- one instruction of this class in the block `f`
abbrev pub step_by : Class → Frame → List Frame → Option (List Frame)
step_by (Fixed takes gives) f fs = then_if (pop_all f.unreachable (reverse takes) f.stack) (λ os. Some (with_stack (known (reverse gives) ++ os) f ∷ fs))
step_by Discards f fs = then_if (pop_any f.unreachable f.stack) (λ p. Some (with_stack p.1 f ∷ fs))
step_by Selects f fs = then_if (pop_one f.unreachable I32 f.stack) (λ os. then_if (select_by f.unreachable os) (λ left. Some (with_stack left f ∷ fs)))
step_by (Leaves takes) f fs = then_if (pop_all f.unreachable (reverse takes) f.stack) (λ os. Some (made_unreachable f ∷ fs))
step_by (Enters takes enclosing label result) f fs = then_if (pop_all f.unreachable (reverse takes) f.stack) (λ os. Some (opened enclosing label result ∷ with_stack os f ∷ fs))
step_by Turning f fs = only (both (may_turn f.enclosing) (closed (pop_all f.unreachable f.result f.stack))) (opened Whole f.label f.result ∷ fs)
step_by Ending f fs = only (both (may_end f.enclosing f.result) (closed (pop_all f.unreachable f.result f.stack))) (give f.result fs)
step_by Wrong f fs = None

abbrev pub labels_of : List Frame → List (List ValType)
labels_of [] = []
labels_of (f ∷ fs) = f.label ∷ labels_of fs

abbrev pub at_frames : Context → List Frame → Context
at_frames c fs = with_labels (labels_of fs) c

abbrev pub step : Context → Instr → List Frame → Option (List Frame)
step c i [] = None
step c i (f ∷ fs) = step_by (class_of (at_frames c (f ∷ fs)) i) f fs

abbrev pub walk : Context → List Instr → List Frame → Option (List Frame)
walk c [] fs = Some fs
walk c (i ∷ is) fs = then_if (step c i fs) (walk c is)

-- the function's outermost block
abbrev pub start : Context → List Frame
start c = opened Whole c.result c.result ∷ []

-- the whole function closes its outermost block, and nothing else
abbrev pub Checked : Context → List Instr → Type 0
Checked c code = walk c code (start c) ≡ Some []
