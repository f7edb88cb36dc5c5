-- What every world keeps.
use Rattle.std.specs.Prelude.{true, ◌≡◌, ℕ, ◌≤◌, List, length, Some, slice_get}
use Rattle.rw_objects.specs.Code.{Code}
use Rattle.rw_objects.specs.Memory.{Memory}
use Rattle.wasm_types.specs.declared.sizes.TheConstants.{MOST_STEPS, MOST_THREADS}
use Rattle.event_core.specs.Threads.{ThreadAt, all_steps}

module _ {State Op Reply Value Fixed : Type 0} (code : Code State Op Reply Fixed) where
  -- a thread was made for this space, and made at most 1,000,000,000 steps and no more events than steps
  pub record IsSoundThread (memory : Memory Value Fixed) (thread : ThreadAt State) : Type 0 where
    pub fixed : code.fixed thread.state ≡ memory.fixed
    pub is_suited : code.is_suited thread.state ≡ true
    pub steps : code.steps thread.state ≤ MOST_STEPS
    pub places : thread.places ≤ code.steps thread.state

  -- there are at most 16 threads, and no version and no read total passes the number of their steps
  pub record IsSound (threads : List (ThreadAt State)) (memory : Memory Value Fixed) : Type 0 where
    pub few : length threads ≤ MOST_THREADS
    pub each : (t : ℕ) (thread : ThreadAt State) → slice_get threads t ≡ Some thread → IsSoundThread memory thread
    pub versions : (o : ℕ) → (memory.counts o).version ≤ all_steps code threads
    pub reads : (o : ℕ) → (memory.counts o).reads ≤ all_steps code threads
