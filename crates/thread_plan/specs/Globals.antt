-- What instructions do with globals. WebAssembly Core 1.0, variable instructions and control instructions.
use Rattle.std.specs.Prelude.{ℕ, Bool, true, false, ◌==◌, List, Option, Some, None, map}
use Rattle.std.specs.List.{find, list_any}
use Rattle.wasm_types.specs.declared.modules.Module.{Module}
use Rattle.wasm_types.specs.declared.instruction.Instr.{Instr}
use Rattle.wasm_types.specs.declared.instruction.Instr.TheVariants as instr
use Rattle.wasm_types.specs.declared.instruction.IndexOp.{IndexOp}
use Rattle.wasm_types.specs.declared.instruction.IndexOp.TheVariants.{Call, GlobalGet, GlobalSet}
use Rattle.thread_plan.specs.declared.global_use.GlobalUse.{GlobalUse}
use Rattle.thread_plan.specs.declared.global_use.GlobalUse.TheVariants.{Gets, Sets, Calls, Nothing}

abbrev pub use_by : IndexOp → ℕ → GlobalUse
use_by GlobalGet index = Gets index
use_by GlobalSet index = Sets index
use_by Call index = Calls
use_by _ index = Nothing

-- `global.get`, `global.set`, a call of any kind, or none of these
abbrev pub use_of : Instr → GlobalUse
use_of (instr.Index op index) = use_by op index
use_of (instr.CallIndirect kind) = Calls
use_of _ = Nothing

-- ---- globals that are set

abbrev pub is_set_of : ℕ → GlobalUse → Bool
is_set_of global (Sets named) = named == global
is_set_of global _ = false

-- the instruction is `global.set` of this global
abbrev pub sets : ℕ → Instr → Bool
sets global i = is_set_of global (use_of i)

-- some function of the module sets the global
abbrev pub is_set : Module → ℕ → Bool
is_set m global = list_any (λ body. list_any (sets global) body.code) m.bodies

-- ---- globals whose value is taken first

-- names this global, or is a call
abbrev pub concerns : ℕ → GlobalUse → Bool
concerns global (Gets named) = named == global
concerns global (Sets named) = named == global
concerns global Calls = true
concerns global Nothing = false

-- there is such an instruction, and it is no `global.set`
abbrev pub is_no_set : Option GlobalUse → Bool
is_no_set None = false
is_no_set (Some (Sets named)) = false
is_no_set (Some _) = true

-- of these instructions, the first that names the global or is a call is no `global.set`
abbrev pub begins_with : ℕ → List Instr → Bool
begins_with global code = is_no_set (find (concerns global) (map use_of code))
