-- Thread 0 of a plan, which runs over its memory with no other thread.
use Rattle.std.specs.Prelude.{◌≡◌, ℕ, Option, Some}
use Rattle.rw_objects.specs.Alone as alone
use Rattle.rw_objects.specs.declared.entry.Entry.{Entry}
use Rattle.wasm_types.specs.declared.key.Profile.TheVariants.{Two}
use Rattle.wasm_types.specs.declared.modules.Module.{Module}
use Rattle.rw_objects.specs.Counts.{no_counts}
use Rattle.rw_objects.specs.Memory.{Memory, memory_with, memory_of}
use Rattle.block_objects.specs.declared.limits.MemoryLimits.{MemoryLimits}
use Rattle.block_objects.specs.Objects.{ObjectAt}
use Rattle.block_objects.specs.SharedMemory.{shared_memory}
use Rattle.striped_memory.specs.Shared.{opening_values}
use Rattle.event_core.specs.End.{outcome_of}
use Rattle.thread_plan.specs.Plans.{PlanValue}
use Rattle.thread_words.specs.ThreadCode.{ThreadAt, thread_code, limits_of}
use Rattle.integer_machine.specs.First.{first_of}
use Rattle.wreplay_bench.specs.declared.alone.Alone.{Alone}
use Rattle.wreplay_bench.specs.declared.ended.Ended.{Ended}

-- a thread, and the values and the counts of the objects of its memory
pub record AloneAt : Type 0 where
  pub thread : ThreadAt
  pub memory : Memory ObjectAt MemoryLimits

abbrev pub alone_with : ThreadAt → Memory ObjectAt MemoryLimits → AloneAt
alone_with thread memory = record { thread = thread; memory = memory }

abbrev pub alone_of : Alone → AloneAt
alone_of a = alone_with a.thread.thread (memory_of a.memory)

-- nothing is kept of an entry
abbrev pub no_entry : Unit {0} → Entry → Option (Unit {0})
no_entry seen entry = Some seen

-- so many steps lead from one state to another
abbrev pub Goes : ℕ → AloneAt → AloneAt → Type 0
Goes made a b = (events : ℕ) × alone.Goes shared_memory thread_code no_entry made (alone.alone_with a.thread a.memory tt 0) (alone.alone_with b.thread b.memory tt events)

-- no step comes, or as many were made as a thread may make
abbrev pub IsOver : AloneAt → Type 0
IsOver a = alone.IsOver shared_memory thread_code no_entry a.thread a.memory tt

abbrev pub GoesTo : AloneAt → AloneAt → Type 0
GoesTo a b = (made : ℕ) × Goes made a b

-- the memory with which a thread begins: the segments of its module are written, and no object was touched
abbrev pub opening_memory : ThreadAt → Memory ObjectAt MemoryLimits
opening_memory t = memory_with (limits_of t.instance) (opening_values (limits_of t.instance) t.within.«data») no_counts

-- thread 0 of a plan before its first step, over a memory in blocks of two to that power
pub record IsOpening (m : Module) (plan : PlanValue) (block : ℕ) (a : AloneAt) : Type 0 where
  pub thread : first_of m plan (Two block) 0 ≡ Some a.thread
  pub memory : a.memory ≡ opening_memory a.thread

-- thread 0 of a plan made so many steps from its first on, until none came, and stands so
pub record RunsTo (m : Module) (plan : PlanValue) (block : ℕ) (ended : Ended) : Type 0 where
  pub first : AloneAt
  pub last : AloneAt
  pub opens : IsOpening m plan block first
  pub goes : Goes ended.steps first last
  pub is_over : IsOver last
  pub outcome : ended.outcome ≡ outcome_of (thread_code.next last.thread)
