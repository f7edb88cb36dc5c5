-- Gates, and the runs that they let pass (LeBlanc and Mellor-Crummey 1987).
use Rattle.std.specs.Prelude.{◌≡◌, ℕ, ◌<◌, ◌==◌, ◌&&◌, Bool, true, false, List, [], ◌∷◌, Option, Some, slice_get}
use Rattle.rw_objects.specs.declared.count.Count.{Count}
use Rattle.rw_objects.specs.declared.entry.Entry.{Entry}
use Rattle.rw_objects.specs.declared.touch.Mode.{Mode}
use Rattle.rw_objects.specs.declared.touch.Mode.TheVariants as mode
use Rattle.rw_objects.specs.declared.touch.Touch.{Touch}
use Rattle.rw_objects.specs.declared.touch.Found.{Found}
use Rattle.rw_objects.specs.declared.touch.Found.TheVariants as found
use Rattle.rw_objects.specs.Space.{Space}
use Rattle.rw_objects.specs.Code.{Code}
use Rattle.rw_objects.specs.Memory.{Memory}
use Rattle.event_core.specs.declared.pick.Pick.{Pick}
use Rattle.event_core.specs.declared.step.PickStep.{PickStep}
use Rattle.event_core.specs.declared.step.PickStep.TheVariants as step
use Rattle.event_core.specs.Threads.{ThreadAt}
use Rattle.event_core.specs.World.{WorldAt, step_of_pick, world_after}
use Rattle.log_pieces.specs.declared.end.End.{End}
use Rattle.log_pieces.specs.declared.flat.Flat.{Flat}
use Rattle.log_pieces.specs.declared.flat.Flat.TheVariants.{Known}
use Rattle.replay_laws.specs.Log.{Log}
use Rattle.replay_laws.specs.RunLog.{end_of_thread}

-- the object has the version that was found, and for a write the read total too
abbrev pub is_met : Found → (ℕ → Count) → Bool
is_met (found.Read o v) counts = (counts o).version == v
is_met (found.Write o v r) counts = ((counts o).version == v) && ((counts o).reads == r)

-- an open gate: each touched object is as it was found
abbrev pub is_open : List Found → (ℕ → Count) → Bool
is_open [] counts = true
is_open (f ∷ fs) counts = is_met f counts && is_open fs counts

abbrev pub is_read : Mode → Bool
is_read mode.Read = true
is_read mode.Write = false

abbrev pub is_write : Mode → Bool
is_write mode.Read = false
is_write mode.Write = true

-- what was found is of this touch
abbrev pub is_of : Touch → Found → Bool
is_of t (found.Read o v) = (t.object == o) && is_read t.mode
is_of t (found.Write o v r) = (t.object == o) && is_write t.mode

-- what was found is of these touches, one by one
abbrev pub are_of : List Touch → List Found → Bool
are_of [] [] = true
are_of [] (f ∷ fs) = false
are_of (t ∷ ts) [] = false
are_of (t ∷ ts) (f ∷ fs) = is_of t f && are_of ts fs

module _ {Op Reply Value Fixed : Type 0} (space : Space Op Reply Value Fixed) where
  -- an operation has the logged kind and touches, and the gate is open
  pub record MeetsEntry (logged : Option (Flat Entry)) (m : Memory Value Fixed) (op : Op) : Type 0 where
    pub item : Entry
    pub is_known : logged ≡ Some (Known item)
    pub opens : is_open item.found m.counts ≡ true
    pub same_kind : space.kind op ≡ item.kind
    pub same_touches : are_of (space.touches op) item.found ≡ true

  -- a step meets the log: a local one always, an event below the end's places where it meets the entry at its place
  abbrev pub MeetsLog : Option (Flat Entry) → ℕ → ℕ → Memory Value Fixed → PickStep Op → Type 0
  MeetsLog logged place places m (step.Refused f) = ⊥
  MeetsLog logged place places m step.Local = Unit {0}
  MeetsLog logged place places m (step.Event op) = (place < places) × MeetsEntry logged m op

module _ {State Op Reply Value Fixed : Type 0} (space : Space Op Reply Value Fixed) (code : Code State Op Reply Fixed) where
  -- the log lets a pick pass: the end of its thread is known, the thread has made fewer steps, and the step meets the
  -- log
  pub record LetsPass (log : Log) (w : WorldAt State Value Fixed) (p : Pick) : Type 0 where
    pub thread : ThreadAt State
    pub exists : slice_get w.threads p.thread ≡ Some thread
    pub end : End
    pub is_known : log.end p.thread ≡ Some (Known end)
    pub below : code.steps thread.state < end.steps
    pub meets : MeetsLog space (log.entry p.thread thread.places) thread.places end.places w.memory (step_of_pick space code w p)

  -- a gated run from a log: the log lets each pick pass in turn
  abbrev pub IsGatedRun : Log → WorldAt State Value Fixed → List Pick → Type 0
  IsGatedRun log w [] = Unit {0}
  IsGatedRun log w (p ∷ ps) = LetsPass log w p × IsGatedRun log (world_after space code w p) ps

module _ {State Op Reply Value Fixed : Type 0} (code : Code State Op Reply Fixed) where
  -- finished: every thread stands at its logged end
  abbrev pub IsFinished : Log → WorldAt State Value Fixed → Type 0
  IsFinished log w = (t : ℕ) (thread : ThreadAt State) → slice_get w.threads t ≡ Some thread → log.end t ≡ Some (Known (end_of_thread code thread))
