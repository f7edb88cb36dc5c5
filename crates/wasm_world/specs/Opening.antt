-- The opening world of a module and a plan. WebAssembly Core 1.0, execution, instantiation and invocation.
use Rattle.std.specs.Prelude.{ℕ, ◌+◌, List, [], ◌∷◌, Option, Some, None, map, option_map}
use Rattle.wasm_types.specs.declared.key.Profile.{Profile}
use Rattle.wasm_types.specs.declared.modules.Module.{Module}
use Rattle.rw_objects.specs.Counts.{no_counts}
use Rattle.rw_objects.specs.Memory.{Memory, memory_with}
use Rattle.block_objects.specs.declared.limits.MemoryLimits.{MemoryLimits}
use Rattle.block_objects.specs.Objects.{ObjectAt}
use Rattle.waiter_queues.specs.Shared.{opening_values}
use Rattle.event_core.specs.Threads.{opening_thread}
use Rattle.event_core.specs.World.{WorldAt}
use Rattle.thread_plan.specs.Plans.{PlanValue}
use Rattle.thread_plan.specs.declared.planned_thread.PlannedThread.{PlannedThread}
use Rattle.thread_words.specs.Opening.{instance_of}
use Rattle.thread_words.specs.ThreadCode.{ThreadAt, limits_of}
use Rattle.integer_machine.specs.First.{beginning}

-- threads of WebAssembly over a shared memory
abbrev pub WasmWorld : Type 0
WasmWorld = WorldAt ThreadAt ObjectAt MemoryLimits

abbrev pub with_thread : Option ThreadAt → Option (List ThreadAt) → Option (List ThreadAt)
with_thread None threads = None
with_thread (Some t) None = None
with_thread (Some t) (Some threads) = Some (t ∷ threads)

-- these threads of a plan, numbered from `number` on, before their first steps: None where one has no function
abbrev pub opening_threads : Module → Profile → ℕ → List PlannedThread → Option (List ThreadAt)
opening_threads m profile number [] = Some []
opening_threads m profile number (p ∷ ps) = with_thread (beginning m profile number (Some p)) (opening_threads m profile (number + 1) ps)

abbrev pub limits_in : Module → Profile → MemoryLimits
limits_in m profile = limits_of (instance_of m profile 0)

-- the segments are written, and no object was touched
abbrev pub opening_memory : Module → Profile → Memory ObjectAt MemoryLimits
opening_memory m profile = memory_with (limits_in m profile) (opening_values (limits_in m profile) m.«data») no_counts

abbrev pub opening_world_of : Module → PlanValue → Profile → Option WasmWorld
opening_world_of m plan profile = option_map (λ threads. record { threads = map opening_thread threads; memory = opening_memory m profile }) (opening_threads m profile 0 plan.threads)
