-- Local steps of one thread of a world.
use Rattle.std.specs.Prelude.{◌≡◌, ◌≢◌, ℕ, Some, length, slice_get}
use Rattle.rw_objects.specs.Code.{Code}
use Rattle.rw_objects.specs.LocalRun.{GoesLocally}
use Rattle.event_core.specs.LocalRun.{thread_in}
use Rattle.event_core.specs.Threads.{ThreadAt}
use Rattle.event_core.specs.World.{WorldAt}

module _ {State Op Reply Fixed : Type 0} (code : Code State Op Reply Fixed) {Value Fixed' : Type 0} where
  -- n local steps of thread t lead from one world to another
  pub record GoesAlone (t n : ℕ) (w v : WorldAt State Value Fixed') : Type 0 where
    pub memory : v.memory ≡ w.memory
    pub len : length v.threads ≡ length w.threads
    pub others : (i : ℕ) → i ≢ t → slice_get v.threads i ≡ slice_get w.threads i
    pub own : (thread : ThreadAt State) → slice_get w.threads t ≡ Some thread → (s : State) × GoesLocally code n thread.state s × (slice_get v.threads t ≡ Some (thread_in s thread))
