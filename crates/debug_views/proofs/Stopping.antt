-- Where the replay of a gathered log stops, of the log and the opening world that it was handed.
use Rattle.std.proofs.Common.{◌≡◌, ℕ, ◌+◌, ◌<◌, ◌≤◌, List, length, refl, ap, ◌∙◌, subst}
use Rattle.std.proofs.lemmas.Option.{slice_get_within}
use Rattle.block_objects.specs.SharedMemory.{shared_memory}
use Rattle.wasm_world.specs.ThreadCode.{thread_code}
use Rattle.wasm_types.specs.declared.modules.Module.{Module}
use Rattle.wasm_world.specs.Plans.{PlanValue}
use Rattle.replica.specs.declared.log.Log.{Log as GatheredLog}
use Rattle.wasm_world.specs.Opening.{WasmWorld}
use Rattle.replay_gate.specs.declared.answers.ReplayFault.{ReplayFault}
use Rattle.replay_gate.specs.Shows.{ShowsRecorded}
use Rattle.replay_gate.specs.declared.breaks.Break.{Break}
use Rattle.replay_gate.specs.declared.breaks.Stopped.{Stopped}
use Rattle.replay_gate.specs.declared.breaks.Stopped.TheVariants as stopped
use Rattle.replay_gate.specs.Stops.{StopsAt}
use Rattle.wasm_types.specs.Memories.{block_power}
use Rattle.replica.specs.Log.{key_of}
use Rattle.debug_views.specs.Text.{IsShown, IsView}
use Rattle.debug_views.specs.Values.{memory_bytes, IsFault}
use Rattle.debug_views.specs.declared.fault.ViewFault.{ViewFault}
use Rattle.debug_views.specs.declared.fault.ViewFault.TheVariants as showing
use Rattle.wasm_replay.specs.Replays.{Opens, IsOfRun, IsOpenerOf, world_or_empty, opened_world, gathered_log}
use Rattle.wasm_replay.specs.declared.opener.Opener.{Opener}
use Rattle.debug_views.specs.declared.viewing.WasmViewFault.TheVariants.{View}
use Rattle.debug_views.specs.declared.notes.Notes.{Notes}
use Rattle.debug_views.specs.Stopping.{Stops, StopsToShow}
use Rattle.debug_views.specs.ThreadNotes.{AreNotesAsked}
use Rattle.debug_views.specs.Views.{IsViewOfLog, IsNotViewed}

module _ (m : Module) (plan : PlanValue) (log handed : GatheredLog) (order : List ℕ) (breaks : List Break) (opened v : WasmWorld) where
  -- a stop at a break is at one of the list
  pub shown : (s : Stopped) → StopsAt shared_memory thread_code (gathered_log handed) opened order breaks v s → ((f : ReplayFault) → s ≡ stopped.Fault f → ⊥) → IsShown s breaks
  shown (stopped.Break index) h no_fault = slice_get_within breaks index h.stops.0.one h.stops.0.is
  shown stopped.Finished h no_fault = tt
  shown stopped.Stuck h no_fault = tt
  shown (stopped.Fault f) h no_fault = absurd (no_fault f refl)

  pub stops_of : (s : Stopped) → StopsAt shared_memory thread_code (gathered_log handed) opened order breaks v s → handed ≡ log → ((w : WasmWorld) → Opens m plan log w → opened ≡ w) → Stops m plan log order breaks v s
  stops_of s h same_log same_world w opens =
      subst (λ (l : GatheredLog). StopsAt shared_memory thread_code (gathered_log l) w order breaks v s) same_log
      (subst (λ (x : WasmWorld). StopsAt shared_memory thread_code (gathered_log handed) x order breaks v s) (same_world w opens) h)

  pub shown_of : (s : Stopped) → StopsAt shared_memory thread_code (gathered_log handed) opened order breaks v s → handed ≡ log → ((w : WasmWorld) → Opens m plan log w → opened ≡ w) → IsShown s breaks → StopsToShow m plan log order breaks v s
  shown_of s h same_log same_world is_shown = record { stops = stops_of s h same_log same_world; shown = is_shown }

  -- the world at which it stopped is right by each run of the opening world whose log the log is below
  pub shows : (o : Opener) (shown_at : WasmWorld) → handed ≡ log → IsOpenerOf m plan log o → shown_at ≡ v → ShowsRecorded shared_memory thread_code (gathered_log handed) (opened_world o.valid.now o.plan.now o.profile) shown_at
      → (w : WasmWorld) → Opens m plan log w → ShowsRecorded shared_memory thread_code (gathered_log log) w v
  shows o shown_at same_log is same_end h w opens =
      let same_world : opened_world o.valid.now o.plan.now o.profile ≡ w =
      ap (λ (x : Module). opened_world x o.plan.now o.profile) is.module
      ∙ ap (λ (x : PlanValue). opened_world m x o.profile) is.plan_is
      ∙ ap (opened_world m plan) is.profile
      ∙ ap (world_or_empty m (key_of log).profile) opens in
      subst (ShowsRecorded shared_memory thread_code (gathered_log log) w) same_end
      (subst (λ (x : WasmWorld). ShowsRecorded shared_memory thread_code (gathered_log log) x shown_at) same_world
      (subst (λ (l : GatheredLog). ShowsRecorded shared_memory thread_code (gathered_log l) (opened_world o.valid.now o.plan.now o.profile) shown_at) same_log h))

  -- the view of the world at which it stopped
  pub view_of : (asked : Notes) (shown_at : WasmWorld) (s : Stopped) (power from len : ℕ) (text : List ℕ) → StopsAt shared_memory thread_code (gathered_log handed) opened order breaks v s → handed ≡ log → ((w : WasmWorld) → Opens m plan log w → opened ≡ w)
      → shown_at ≡ v → power ≡ block_power (key_of log).profile → IsShown s breaks → (notes : List (List ℕ)) → AreNotesAsked m plan log order asked shown_at notes
      → IsView shared_memory thread_code shown_at power s breaks notes from len text → from + len ≤ length (memory_bytes shared_memory shown_at) → ((w : WasmWorld) → Opens m plan log w → ShowsRecorded shared_memory thread_code (gathered_log log) w v) → IsViewOfLog m plan log order breaks asked from len text
  view_of asked shown_at s power from len text h same_log same_world same_end same_power is_shown notes are_notes view within recorded = record {
    world = v;
    stopped = s;
    stops = shown_of s h same_log same_world is_shown;
    notes = notes;
    are_notes = subst (λ (x : WasmWorld). AreNotesAsked m plan log order asked x notes) same_end are_notes;
    view = subst (λ (x : WasmWorld). IsView shared_memory thread_code x (block_power (key_of log).profile) s breaks notes from len text) same_end
        (subst (λ (p : ℕ). IsView shared_memory thread_code shown_at p s breaks notes from len text) same_power view);
    within = subst (λ (x : WasmWorld). from + len ≤ length (memory_bytes shared_memory x)) same_end within;
    recorded = recorded;
  }

  -- the range passes that world's memory, or it does not and there was no memory for the view
  pub fault_of : (shown_at : WasmWorld) (s : Stopped) (from len : ℕ) (f : ViewFault) → StopsAt shared_memory thread_code (gathered_log handed) opened order breaks v s → handed ≡ log → ((w : WasmWorld) → Opens m plan log w → opened ≡ w)
      → shown_at ≡ v → IsOfRun m plan log → IsShown s breaks → IsFault (memory_bytes shared_memory shown_at) from len f → IsNotViewed m plan log order breaks from len (View f)
  fault_of shown_at s from len showing.OutOfView h same_log same_world same_end of_run is_shown past = (
    of_run,
    record {
      world = v;
      stopped = s;
      stops = shown_of s h same_log same_world is_shown;
      past = subst (λ (x : WasmWorld). length (memory_bytes shared_memory x) < from + len) same_end past;
    },
  )
  fault_of shown_at s from len showing.NoMemory h same_log same_world same_end of_run is_shown within = (
    of_run,
    record {
      world = v;
      stopped = s;
      stops = shown_of s h same_log same_world is_shown;
      within = subst (λ (x : WasmWorld). from + len ≤ length (memory_bytes shared_memory x)) same_end within;
    },
  )
