-- What is noted of where the threads of a stopped replay stand. A thread that trapped is in no function any more: it is
-- noted where it stood before the last of its steps, in that very replay.
use Rattle.std.specs.Prelude.{◌≡◌, ℕ, zero, suc, ◌-◌, true, false, List, [], ◌∷◌, length, Some, option_map, slice_get, unwrap_or}
use Rattle.wasm_types.specs.declared.modules.Module.{Module}
use Rattle.wasm_types.specs.declared.outcome.Outcome.{Outcome}
use Rattle.wasm_types.specs.declared.outcome.Outcome.TheVariants.{Running, Waiting, Done, Trapped}
use Rattle.block_objects.specs.SharedMemory.{shared_memory}
use Rattle.event_core.specs.End.{outcome_of}
use Rattle.event_core.specs.Threads.{ThreadAt}
use Rattle.wasm_world.specs.Plans.{PlanValue}
use Rattle.wasm_world.specs.Opening.{WasmWorld}
use Rattle.wasm_world.specs.ThreadCode.{thread_code, ThreadAt as CodeThread}
use Rattle.replica.specs.declared.log.Log.{Log as GatheredLog}
use Rattle.replay_gate.specs.Shows.{ShowsRecorded}
use Rattle.replay_gate.specs.OneStop.{HadMemory}
use Rattle.replay_gate.specs.declared.breaks.Break.TheVariants as break
use Rattle.replay_gate.specs.declared.breaks.Stopped.{Stopped}
use Rattle.wasm_replay.specs.Replays.{Opens, gathered_log}
use Rattle.debug_views.specs.Standing.{PlaceForm, note_of}
use Rattle.debug_views.specs.Stopping.{Stops, StopsToShow}
use Rattle.debug_views.specs.declared.notes.Notes.{Notes}
use Rattle.debug_views.specs.declared.notes.Notes.TheVariants.{Nothing, Names, Offsets}

-- where thread t stands in a world
abbrev pub note_in : PlaceForm → WasmWorld → ℕ → List ℕ
note_in form w t = unwrap_or (option_map (λ thread. note_of form thread.state) (slice_get w.threads t)) []

module _ (m : Module) (plan : PlanValue) (log : GatheredLog) (order : List ℕ) where
  -- the world at which the replay stops once thread t has made so many steps; before its first one, the opening world
  abbrev pub IsAtStep : ℕ → ℕ → WasmWorld → Type 0
  IsAtStep t zero v = (w : WasmWorld) → Opens m plan log w → v ≡ w
  IsAtStep t (suc n) v = (s : Stopped) × Stops m plan log order (break.Step t (suc n) ∷ []) v s × HadMemory s

  -- where thread t stood once it had made so many steps: on a log below a run's, where it stood in that run
  pub record IsNoteAtStep (form : PlaceForm) (t steps : ℕ) (note : List ℕ) : Type 0 where
    pub world : WasmWorld
    pub at : IsAtStep t steps world
    pub recorded : (w : WasmWorld) → Opens m plan log w → ShowsRecorded shared_memory thread_code (gathered_log log) w world
    pub is : note ≡ note_in form world t

  -- where thread t stands that has this outcome
  abbrev pub IsNoteBy : PlaceForm → ℕ → CodeThread → Outcome → List ℕ → Type 0
  IsNoteBy form t thread (Trapped trap) note = IsNoteAtStep form t (thread_code.steps thread - 1) note
  IsNoteBy form t thread Running note = note ≡ note_of form thread
  IsNoteBy form t thread Waiting note = note ≡ note_of form thread
  IsNoteBy form t thread (Done value) note = note ≡ note_of form thread

  abbrev pub IsNote : PlaceForm → ℕ → ThreadAt CodeThread → List ℕ → Type 0
  IsNote form t thread note = IsNoteBy form t thread.state (outcome_of (thread_code.next thread.state)) note

  -- a note for each thread of world v
  pub record AreNotes (form : PlaceForm) (v : WasmWorld) (notes : List (List ℕ)) : Type 0 where
    pub len : length notes ≡ length v.threads
    pub each : (t : ℕ) (thread : ThreadAt CodeThread) (note : List ℕ) → slice_get v.threads t ≡ Some thread → slice_get notes t ≡ Some note → IsNote form t thread note

  -- the notes that are asked for
  abbrev pub AreNotesAsked : Notes → WasmWorld → List (List ℕ) → Type 0
  AreNotesAsked Nothing v notes = notes ≡ []
  AreNotesAsked Names v notes = AreNotes (record { source = m.source; offsets = false }) v notes
  AreNotesAsked Offsets v notes = AreNotes (record { source = m.source; offsets = true }) v notes

  -- a note for each thread of the world in which the replay ends
  pub record AreNotesAtEnd (form : PlaceForm) (notes : List (List ℕ)) : Type 0 where
    pub world : WasmWorld
    pub stopped : Stopped
    pub stops : StopsToShow m plan log order [] world stopped
    pub are_notes : AreNotes form world notes

  -- the notes that are asked for of the end
  abbrev pub AreNotesOfEnd : Notes → List (List ℕ) → Type 0
  AreNotesOfEnd Nothing notes = notes ≡ []
  AreNotesOfEnd Names notes = AreNotesAtEnd (record { source = m.source; offsets = false }) notes
  AreNotesOfEnd Offsets notes = AreNotesAtEnd (record { source = m.source; offsets = true }) notes
