-- The first instruction at which the rules can't be kept going from left to right.
use Rattle.std.specs.Prelude.{◌≡◌, ℕ, List, [], Option, Some, None, slice_get, take}
use Rattle.wasm_types.specs.declared.instruction.Instr.{Instr}
use Rattle.std.specs.declared.result.Result.{Result}
use Rattle.std.specs.declared.result.Result.TheVariants.{Ok, Err}
use Rattle.validator.specs.declared.fault.InstructionFault.{InstructionFault}
use Rattle.validator.specs.declared.fault.InstructionFault.TheVariants as step_fault
use Rattle.validator.specs.declared.fault.CheckFault.{CheckFault}
use Rattle.validator.specs.declared.fault.CheckFault.TheVariants.{IllTyped, NoMemory}
use Rattle.validator.specs.Context.{Context}
use Rattle.validator.specs.Walk.{Frame, start, step, walk}

-- the instruction is not typed, from whatever cause
abbrev pub IsIllTyped : {X : Type 0} → Result X InstructionFault → Type 0
IsIllTyped (Ok x) = ⊥
IsIllTyped (Err (step_fault.IllTyped cause)) = Unit {0}
IsIllTyped (Err step_fault.NoMemory) = ⊥

-- no step is left, with blocks open, or the next instruction has none
abbrev pub CannotGoOn : Context → Option Instr → List Frame → Type 0
CannotGoOn c None fs = fs ≡ [] → ⊥
CannotGoOn c (Some i) fs = step c i fs ≡ None

-- the check comes as far as this place, and not further
abbrev pub FirstFault : Context → List Instr → ℕ → Type 0
FirstFault c code at = (fs : List Frame) × (walk c (take at code) (start c) ≡ Some fs) × CannotGoOn c (slice_get code at) fs

abbrev pub FaultOf : Context → List Instr → CheckFault → Type 0
FaultOf c code (IllTyped at cause) = FirstFault c code at
FaultOf c code NoMemory = Unit {0}
