-- The opening world.
use Rattle.std.specs.Prelude.{◌≡◌, ◌≤◌, ℕ, true, List, length, map, Some, slice_get}
use Rattle.rw_objects.specs.Code.{Code}
use Rattle.rw_objects.specs.Counts.{no_count, no_counts}
use Rattle.rw_objects.specs.Memory.{memory_with}
use Rattle.wasm_types.specs.declared.sizes.TheConstants.{MOST_THREADS}
use Rattle.event_core.specs.Threads.{ThreadAt, opening_thread}
use Rattle.event_core.specs.World.{WorldAt}

-- a thread made no step; it was made for a space with these fixed numbers, and asks only for what fits
pub record IsFresh {State Op Reply Fixed : Type 0} (code : Code State Op Reply Fixed) (fixed : Fixed) (s : State) : Type 0 where
  pub no_steps : code.steps s ≡ 0
  pub made_for : code.fixed s ≡ fixed
  pub is_suited : code.is_suited s ≡ true

abbrev pub AllFresh : {M State Op Reply Fixed : Type 0} → Code State Op Reply Fixed → (M → State) → Fixed → List M → Type 0
AllFresh {M} code state fixed machines = (t : ℕ) (m : M) → slice_get machines t ≡ Some m → IsFresh code fixed (state m)

-- the opening world of these machines over a space with these values
abbrev pub opening_world : {M State Value Fixed : Type 0} → (M → State) → Fixed → (ℕ → Value) → List M → WorldAt State Value Fixed
opening_world state fixed values machines = record { threads = map opening_thread (map state machines); memory = memory_with fixed values no_counts }

-- an opening world: at most 16 threads, none of which made a step, over objects none of which was touched
pub record IsOpeningWorld {State Op Reply Value Fixed : Type 0} (code : Code State Op Reply Fixed) (w : WorldAt State Value Fixed) : Type 0 where
  pub few : length w.threads ≤ MOST_THREADS
  pub fresh : (t : ℕ) (thread : ThreadAt State) → slice_get w.threads t ≡ Some thread → IsFresh code w.memory.fixed thread.state
  pub no_places : (t : ℕ) (thread : ThreadAt State) → slice_get w.threads t ≡ Some thread → thread.places ≡ 0
  pub no_counts : (o : ℕ) → w.memory.counts o ≡ no_count
