-- Hints at what may go wrong with the threads of a plan. Both rules are this project's own.
use Rattle.std.specs.Prelude.{ℕ, ◌&&◌, Bool, true, false, not, List, [], ◌∷◌, ◌++◌, Option, Some, None, codes, length, nat_le, slice_get, if◌then◌else◌}
use Rattle.std.specs.List.{filter, flat_map, list_any, range_with_len}
use Rattle.std.specs.Fmt.{decimal}
use Rattle.wasm_types.specs.declared.value.ValType.TheVariants.{I32}
use Rattle.wasm_types.specs.declared.modules.Module.{Module}
use Rattle.wasm_types.specs.declared.modules.Body.{Body}
use Rattle.wasm_types.specs.declared.modules.Global.{Global}
use Rattle.wasm_types.specs.declared.instruction.Instr.{Instr}
use Rattle.wasm_types.specs.declared.instruction.Instr.TheVariants.{Atomic}
use Rattle.wasm_types.specs.Memories.{first_memory, shared_by}
use Rattle.wasm_types.specs.Values.{same_type}
use Rattle.thread_plan.specs.declared.planned_thread.PlannedThread.{PlannedThread}
use Rattle.thread_plan.specs.Plans.{PlanValue}
use Rattle.thread_plan.specs.Globals.{begins_with, is_set}

-- ---- a stack that threads share

abbrev pub code_by : Option Body → List Instr
code_by None = []
code_by (Some body) = body.code

-- the instructions of a thread's function
abbrev pub thread_code : Module → Option PlannedThread → List Instr
thread_code m None = []
thread_code m (Some thread) = code_by (slice_get m.bodies thread.function)

-- the threads that begin with the value of a global, by their numbers
abbrev pub threads_with : Module → List PlannedThread → ℕ → List ℕ
threads_with m threads global = filter (λ t. begins_with global (thread_code m (slice_get threads t))) (range_with_len 0 (length threads))

-- it may be a stack pointer, as that of C
abbrev pub is_mutable_i32 : Global → Bool
is_mutable_i32 global = global.mutable && same_type global.val_type I32

abbrev pub may_be_stack : Option Global → Bool
may_be_stack None = false
may_be_stack (Some global) = is_mutable_i32 global

abbrev pub stack_line : ℕ → List ℕ → List ℕ
stack_line global threads =
    codes "warning: threads" ++ (flat_map (λ t. 32 ∷ decimal t) threads ++ (codes " begin with the same value of global " ++ (decimal global ++ codes ", which functions set: do they share a stack?\n")))

-- a line, where there are two of these threads or more
abbrev pub line_of_many : ℕ → List ℕ → List ℕ
line_of_many global threads = if nat_le 2 (length threads) then stack_line global threads else []

-- a line of a global that is mutable, of type i32, and set by some function
abbrev pub stack_hint : Module → List PlannedThread → ℕ → List ℕ
stack_hint m threads global = if may_be_stack (slice_get m.globals global) && is_set m global then line_of_many global (threads_with m threads global) else []

-- ---- a shared memory without atomic instructions

-- a load, a store, a read-modify-write, a compare-exchange, a wait or a notify, but no fence
abbrev pub is_atomic : Instr → Bool
is_atomic (Atomic op place) = true
is_atomic _ = false

abbrev pub has_atomic : Body → Bool
has_atomic body = list_any is_atomic body.code

-- there are two threads or more, the memory is shared, and no instruction of the module is atomic
abbrev pub lacks_atomics : Module → List PlannedThread → Bool
lacks_atomics m threads = nat_le 2 (length threads) && (shared_by (first_memory m) && not (list_any has_atomic m.bodies))

abbrev pub memory_hint : Module → List PlannedThread → List ℕ
memory_hint m threads = if lacks_atomics m threads then codes "warning: the memory is shared, and no instruction is atomic\n" else []

-- the hints of a plan for a module: those of its globals in their order, then that of its memory
abbrev pub hints_text : Module → PlanValue → List ℕ
hints_text m plan = flat_map (stack_hint m plan.threads) (range_with_len 0 (length m.globals)) ++ memory_hint m plan.threads
