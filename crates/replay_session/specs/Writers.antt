-- Which of the events that threads made wrote a version of an object (LeBlanc and Mellor-Crummey 1987).
use Rattle.std.specs.Prelude.{◌≡◌, ℕ, ◌+◌, ◌<◌, ◌≤◌, ◌==◌, ◌&&◌, Bool, true, false, List, Option, Some, None, slice_get}
use Rattle.std.specs.List.{list_any}
use Rattle.rw_objects.specs.declared.entry.Entry.{Entry}
use Rattle.rw_objects.specs.declared.touch.Found.{Found}
use Rattle.rw_objects.specs.declared.touch.Found.TheVariants as found
use Rattle.rw_objects.specs.Space.{Space}
use Rattle.rw_objects.specs.Code.{Code}
use Rattle.event_core.specs.declared.pick.Pick.{Pick}
use Rattle.event_core.specs.Opening.{IsOpeningWorld}
use Rattle.event_core.specs.Run.{world_run}
use Rattle.event_core.specs.Threads.{ThreadAt}
use Rattle.event_core.specs.World.{WorldAt}
use Rattle.log_pieces.specs.declared.flat.Flat.{Flat}
use Rattle.log_pieces.specs.declared.flat.Flat.TheVariants.{Known, Clash}
use Rattle.replay_laws.specs.Gates.{IsGatedRun}
use Rattle.replay_laws.specs.Log.{Log}

-- a write makes the version behind the one that it found
abbrev pub writes_version : (object version : ℕ) → Found → Bool
writes_version o v (found.Read object version) = false
writes_version o v (found.Write object version reads) = object == o && version + 1 == v

abbrev pub item_writes : (object version : ℕ) → Option (Flat Entry) → Bool
item_writes o v None = false
item_writes o v (Some (Known item)) = list_any (writes_version o v) item.found
item_writes o v (Some Clash) = false

module _ {State Value Fixed : Type 0} (log : Log) (w : WorldAt State Value Fixed) where
  -- the event at this place of a thread was made, and it wrote this version of an object
  pub record HasWritten (object version thread place : ℕ) : Type 0 where
    pub at : ThreadAt State
    pub exists : slice_get w.threads thread ≡ Some at
    pub made : place < at.places
    pub writes : item_writes object version (log.entry thread place) ≡ true

  -- each version of an object was written by one of the events made at most, and none wrote one that is still to come
  pub record OneWriterEach : Type 0 where
    pub come : (o v t p : ℕ) → HasWritten o v t p → v ≤ (w.memory.counts o).version
    pub one : (o v t p s q : ℕ) → HasWritten o v t p → HasWritten o v s q → (t ≡ s) × (p ≡ q)

module _ {State Op Reply Value Fixed : Type 0} (space : Space Op Reply Value Fixed) (code : Code State Op Reply Fixed) where
  -- so it is at every point of every gated run from an opening world, whoever made the log
  abbrev pub VersionsHaveOneWriter : Type 0
  VersionsHaveOneWriter = (w : WorldAt State Value Fixed) → IsOpeningWorld code w
      → (log : Log) (gs : List Pick) → IsGatedRun space code log w gs → OneWriterEach log (world_run space code w gs)
