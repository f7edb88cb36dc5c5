-- Recorded values, and recorded states of threads.
use Rattle.std.specs.Prelude.{◌≡◌, ℕ, List, take, Some, slice_get}
use Rattle.rw_objects.specs.Space.{Space}
use Rattle.rw_objects.specs.Code.{Code}
use Rattle.event_core.specs.declared.pick.Pick.{Pick}
use Rattle.event_core.specs.Threads.{ThreadAt}
use Rattle.event_core.specs.World.{WorldAt}
use Rattle.event_core.specs.Run.{world_run}

module _ {State Op Reply Value Fixed : Type 0} (space : Space Op Reply Value Fixed) (code : Code State Op Reply Fixed) where
  -- the world after the first k picks of a run
  abbrev pub world_at : WorldAt State Value Fixed → List Pick → ℕ → WorldAt State Value Fixed
  world_at w ps k = world_run space code w (take k ps)

  -- in the run, object o has value x after v writes of it
  pub record IsRecordedValue (w : WorldAt State Value Fixed) (ps : List Pick) (o v : ℕ) (x : Value) : Type 0 where
    pub point : ℕ
    pub version : ((world_at w ps point).memory.counts o).version ≡ v
    pub value : (world_at w ps point).memory.values o ≡ x

  -- in the run, thread t stands so, after as many steps and events
  pub record IsRecordedThread (w : WorldAt State Value Fixed) (ps : List Pick) (t : ℕ) (thread : ThreadAt State) : Type 0 where
    pub point : ℕ
    pub is : slice_get (world_at w ps point).threads t ≡ Some thread
