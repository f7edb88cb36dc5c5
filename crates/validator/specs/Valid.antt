-- A well-typed module. WebAssembly Core 1.0, validation, modules.
use Rattle.std.specs.Prelude.{◌≡◌, ◌<◌, ℕ, Bool, true, false, List, ◌&&◌, Option, Some, None, map, slice_get, nat_le}
use Rattle.std.specs.List.{list_all}
use Rattle.wasm_types.specs.Limits.{Within}
use Rattle.wasm_types.specs.declared.modules.Module.{Module}
use Rattle.wasm_types.specs.declared.modules.FuncType.{FuncType}
use Rattle.wasm_types.specs.declared.modules.Body.{Body}
use Rattle.wasm_types.specs.declared.modules.Import.{Import}
use Rattle.wasm_types.specs.declared.modules.MemoryType.{MemoryType}
use Rattle.wasm_types.specs.declared.instruction.Instr.{Instr}
use Rattle.wasm_types.specs.declared.instruction.Instr.TheVariants as instr
use Rattle.wasm_types.specs.declared.instruction.Numeric.TheVariants as numeric
use Rattle.wasm_types.specs.declared.key.Profile.{Profile}
use Rattle.wasm_types.specs.declared.key.Profile.TheVariants.{One, Two}
use Rattle.validator.specs.declared.targets.Target.{Target}
use Rattle.validator.specs.Targets.{targets_from}
use Rattle.validator.specs.declared.fault.ValidFault.{ValidFault}
use Rattle.validator.specs.declared.fault.ValidFault.TheVariants.{Invalid, NoMemory}
use Rattle.validator.specs.declared.fault.CheckFault.{CheckFault}
use Rattle.validator.specs.declared.fault.CheckFault.TheVariants as check
use Rattle.validator.specs.Context.{context_of, function_type}
use Rattle.validator.specs.Typing.{FunctionTyped}
use Rattle.validator.specs.Faults.{FirstFault}
use Rattle.validator.specs.Module.{rules}
use Rattle.validator.specs.Exports.{distinct}

-- this function is there and well typed
abbrev pub TypedAt : Module → ℕ → Type 0
TypedAt m function = (kind : FuncType) (body : Body) → function_type m function ≡ Some kind → slice_get m.bodies function ≡ Some body → FunctionTyped (context_of m kind body) body.code

-- the module keeps the rules and the limits, its exports have distinct names, and each function is well typed
pub record WellTyped (m : Module) : Type 0 where
  pub keeps_rules : rules m ≡ true
  pub keeps_limits : Within m
  pub exports_differ : distinct m.exports ≡ true
  pub functions_typed : (function : ℕ) → TypedAt m function

-- a fault of a function: it is its first, and the functions before it are well typed
pub record FaultAt (m : Module) (function at : ℕ) : Type 0 where
  pub kind : FuncType
  pub body : Body
  pub has_type : function_type m function ≡ Some kind
  pub has_body : slice_get m.bodies function ≡ Some body
  pub first_fault : FirstFault (context_of m kind body) body.code at
  pub before : (g : ℕ) → g < function → TypedAt m g

-- what does not speak of a function's body
pub record KeepsRules (m : Module) : Type 0 where
  pub rules : rules m ≡ true
  pub limits : Within m
  pub exports : distinct m.exports ≡ true

-- where the fault is: of the module, or of a function
abbrev pub Located : Module → Option ℕ → ℕ → Type 0
Located m None at = (at ≡ 0) × (KeepsRules m → ⊥)
Located m (Some function) at = KeepsRules m × FaultAt m function at

-- a refusal names a fault, and the module isn't well typed
abbrev pub Refuses : Module → ValidFault → Type 0
Refuses m (Invalid function at cause) = Located m function at × (WellTyped m → ⊥)
Refuses m NoMemory = Unit {0}

-- the same of a fault that is no fault of the module as a whole
abbrev pub IsOfFunction : Module → ValidFault → Type 0
IsOfFunction m (Invalid None at cause) = ⊥
IsOfFunction m (Invalid (Some function) at cause) = FaultAt m function at × ((WellTyped m) → ⊥)
IsOfFunction m NoMemory = Unit {0}

abbrev pub fault_in : ℕ → CheckFault → ValidFault
fault_in function (check.IllTyped at cause) = Invalid (Some function) at cause
fault_in function check.NoMemory = NoMemory

-- the targets of each function
abbrev pub all_targets : List Body → List (List (Option Target))
all_targets bodies = map (λ body. targets_from 0 body.code) bodies

-- at most 16 pages, and no sign extension of low bits, which profile 2 alone has
abbrev pub is_low_extension : Instr → Bool
is_low_extension (instr.Numeric (numeric.ExtendLow narrow)) = true
is_low_extension _ = false

abbrev pub negated : Bool → Bool
negated true = false
negated false = true

abbrev pub has_no_low_extension : Body → Bool
has_no_low_extension body = list_all (λ i. negated (is_low_extension i)) body.code

abbrev pub is_small : MemoryType → Bool
is_small memory = nat_le memory.limits.minimum 16

abbrev pub import_is_small : Import → Bool
import_is_small import = is_small import.memory

-- whether the module's runs can be of a profile
abbrev pub fits_profile : Module → Profile → Bool
fits_profile m One = list_all import_is_small m.imports && list_all is_small m.memories && list_all has_no_low_extension m.bodies
fits_profile m (Two power) = true
