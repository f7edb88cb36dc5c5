-- Views of gathered logs: where the replay from the opening world of a module and a plan stops, and what is shown
-- there.
use Rattle.std.specs.Prelude.{◌≡◌, ◌⊎◌, ℕ, ◌+◌, ◌<◌, ◌≤◌, List, length}
use Rattle.wasm_types.specs.declared.modules.Module.{Module}
use Rattle.block_objects.specs.SharedMemory.{shared_memory}
use Rattle.wasm_world.specs.Plans.{PlanValue}
use Rattle.wasm_types.specs.Memories.{block_power}
use Rattle.wasm_world.specs.ThreadCode.{thread_code}
use Rattle.replica.specs.declared.log.Log.{Log as GatheredLog}
use Rattle.replica.specs.Log.{key_of}
use Rattle.wasm_world.specs.Opening.{WasmWorld}
use Rattle.replay_gate.specs.declared.answers.ReplayFault.{ReplayFault}
use Rattle.replay_gate.specs.declared.answers.ReplayFault.TheVariants as fault
use Rattle.replay_gate.specs.Shows.{ShowsRecorded}
use Rattle.replay_gate.specs.declared.breaks.Break.{Break}
use Rattle.replay_gate.specs.declared.breaks.Stopped.{Stopped}
use Rattle.replay_gate.specs.declared.breaks.Stopped.TheVariants as stopped
use Rattle.debug_views.specs.Text.{IsView}
use Rattle.debug_views.specs.Values.{memory_bytes}
use Rattle.debug_views.specs.declared.fault.ViewFault.TheVariants as showing
use Rattle.wasm_replay.specs.Replays.{Opens, IsOfRun, IsOfNoRun, gathered_log}
use Rattle.wasm_replay.specs.declared.replaying.WasmReplayFault.{WasmReplayFault}
use Rattle.wasm_replay.specs.declared.replaying.WasmReplayFault.TheVariants as refusal
use Rattle.debug_views.specs.declared.notes.Notes.{Notes}
use Rattle.debug_views.specs.Stopping.{Stops, StopsToShow}
use Rattle.debug_views.specs.ThreadNotes.{AreNotesAsked}
use Rattle.debug_views.specs.declared.viewing.WasmViewFault.{WasmViewFault}
use Rattle.debug_views.specs.declared.viewing.WasmViewFault.TheVariants.{Replay, View}

module _ (m : Module) (plan : PlanValue) (log : GatheredLog) (order : List ℕ) (breaks : List Break) where
  -- the view of the world at which the replay stops, which has the range, with what is said of where its threads
  -- stand; on a log below that of a run, that world is right by the run
  pub record IsViewOfLog (asked : Notes) (from len : ℕ) (text : List ℕ) : Type 0 where
    pub world : WasmWorld
    pub stopped : Stopped
    pub stops : StopsToShow m plan log order breaks world stopped
    pub notes : List (List ℕ)
    pub are_notes : AreNotesAsked m plan log order asked world notes
    pub view : IsView shared_memory thread_code world (block_power (key_of log).profile) stopped breaks notes from len text
    pub within : from + len ≤ length (memory_bytes shared_memory world)
    pub recorded : (w : WasmWorld) → Opens m plan log w → ShowsRecorded shared_memory thread_code (gathered_log log) w world

  -- the replay stops at a world whose memory the range passes
  pub record IsOutOfView (from len : ℕ) : Type 0 where
    pub world : WasmWorld
    pub stopped : Stopped
    pub stops : StopsToShow m plan log order breaks world stopped
    pub past : length (memory_bytes shared_memory world) < from + len

  -- the replay stops at a world whose memory has the range
  pub record IsInView (from len : ℕ) : Type 0 where
    pub world : WasmWorld
    pub stopped : Stopped
    pub stops : StopsToShow m plan log order breaks world stopped
    pub within : from + len ≤ length (memory_bytes shared_memory world)

  -- the replay stops for this fault, or there is no memory for its opening world
  pub record IsFaultOfReplay (f : ReplayFault) : Type 0 where
    pub of_run : IsOfRun m plan log
    pub stops : (f ≡ fault.NoMemory) ⊎ ((v : WasmWorld) × Stops m plan log order breaks v (stopped.Fault f))

  abbrev pub IsNotReplayed : WasmReplayFault → Type 0
  IsNotReplayed refusal.OtherRun = IsOfNoRun m plan log refusal.OtherRun
  IsNotReplayed refusal.OldProfile = IsOfNoRun m plan log refusal.OldProfile
  IsNotReplayed (refusal.Replay f) = IsFaultOfReplay f

  -- when each fault is answered: for want of memory alone a view is refused whose range the memory has
  abbrev pub IsNotViewed : ℕ → ℕ → WasmViewFault → Type 0
  IsNotViewed from len (Replay u) = IsNotReplayed u.fault
  IsNotViewed from len (View showing.OutOfView) = IsOfRun m plan log × IsOutOfView from len
  IsNotViewed from len (View showing.NoMemory) = IsOfRun m plan log × IsInView from len
