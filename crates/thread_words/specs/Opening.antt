-- How a thread begins: its instance, and the state before its first step. WebAssembly Core 1.0, instantiation.
use Rattle.std.specs.Prelude.{ℕ, false, true, List, [], ◌∷◌, Option, Some, None, slice_get}
use Rattle.wasm_types.specs.declared.value.Value.{Value}
use Rattle.wasm_types.specs.declared.key.Profile.{Profile}
use Rattle.wasm_types.specs.declared.modules.Module.{Module}
use Rattle.wasm_types.specs.declared.modules.MemoryType.{MemoryType}
use Rattle.wasm_types.specs.Memories.{first_memory, initial_by, capacity_by, shared_by, block_power}
use Rattle.wasm_types.specs.Tables.{opening_table}
use Rattle.wasm_types.specs.Globals.{opening_globals}
use Rattle.thread_words.specs.Instance.{Instance}
use Rattle.thread_words.specs.Thread.{State, Runs, Invocation, given, entered, waiting, stack_with}

-- ---- instances

-- the memory is empty without one
abbrev pub instance_with : Profile → ℕ → List (Option ℕ) → Option MemoryType → Instance
instance_with profile thread table memory =
    record {
      table = table;
      extent = record { initial = initial_by memory; block = block_power profile };
      capacity = capacity_by profile memory;
      shared = shared_by memory;
      thread = thread;
    }

abbrev pub instance_of : Module → Profile → ℕ → Instance
instance_of m profile thread = instance_with profile thread (opening_table m) (first_memory m)

-- ---- states

abbrev pub enter : Module → ℕ → List Value → Option Invocation
enter m function arguments = given (slice_get m.bodies function) (λ body. Some (entered function body arguments (opening_globals m)))

-- the start function runs first, where there is one
abbrev pub opening_by : Module → Option ℕ → Invocation → Option State
opening_by m None main = Some (Runs (stack_with main [] false))
opening_by m (Some start) main = given (enter m start []) (λ first. Some (Runs (stack_with first (waiting main ∷ []) true)))

-- a thread of an exported function and its arguments before its first step
abbrev pub opening : Module → ℕ → List Value → Option State
opening m function arguments = given (enter m function arguments) (λ main. opening_by m m.start main)
