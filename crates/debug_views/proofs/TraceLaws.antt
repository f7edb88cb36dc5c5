-- The trace of a replay, of the log, the opening world and the choice that it was handed.
use Rattle.std.proofs.Common.{◌≡◌, ℕ, ◌≤◌, Bool, true, false, cond, List, [], ◌++◌, length, Option, Some, None, slice_get, refl, sym, ap, ◌∙◌, subst}
use Rattle.std.specs.Prelude.{◌&&◌}
use Rattle.std.proofs.lemmas.Option.{slice_get_past}
use Rattle.wasm_types.specs.declared.modules.Module.{Module}
use Rattle.wasm_types.specs.declared.range.ByteRange.{ByteRange}
use Rattle.wasm_types.specs.Memories.{block_power}
use Rattle.block_objects.specs.SharedMemory.{shared_memory}
use Rattle.replay_laws.specs.Ordered.{ordered_world}
use Rattle.replay_gate.specs.Shows.{ShowsRecorded}
use Rattle.replay_gate.specs.declared.breaks.Break.{Break}
use Rattle.replay_gate.specs.declared.breaks.Stopped.{Stopped}
use Rattle.replay_gate.specs.Stops.{StopsAt}
use Rattle.replay_gate.specs.Notes.{notes}
use Rattle.wasm_world.specs.Plans.{PlanValue}
use Rattle.wasm_world.specs.Opening.{WasmWorld}
use Rattle.wasm_types.specs.declared.operation.Action.{Action}
use Rattle.event_core.specs.Threads.{ThreadAt}
use Rattle.wasm_world.specs.ThreadCode.{ThreadAt as CodeThread}
use Rattle.wasm_world.specs.ThreadCode.{thread_code}
use Rattle.replica.specs.declared.log.Log.{Log as GatheredLog}
use Rattle.replica.specs.Log.{key_of}
use Rattle.wasm_replay.specs.Replays.{Opens, IsOpenerOf, world_or_empty, opened_world, gathered_log}
use Rattle.wasm_replay.specs.declared.opener.Opener.{Opener}
use Rattle.debug_views.specs.declared.trace_choice.TraceChoice.{TraceChoice}
use Rattle.debug_views.specs.declared.trace_seen.Seen.{Seen}
use Rattle.debug_views.specs.Standing.{PlaceForm}
use Rattle.debug_views.specs.ThreadNotes.{AreNotes}
use Rattle.debug_views.specs.Text.{IsShown, IsView}
use Rattle.debug_views.specs.Trace.{TraceAsked, action_of, asked_with, is_of_ranges, is_of_threads, is_since, line_of, measured, outcome_in, seen_by, seen_if, seen_of, standing_text, trace_note}
use Rattle.debug_views.specs.TraceLines.{event_line}
use Rattle.debug_views.specs.Traces.{AreLines, IsTraceOfLog, asked_of}
use Rattle.debug_views.proofs.Stopping.{shown_of}

-- ---- what is seen, where it is asked for

-- the line of what is seen and asked for
abbrev pub line_if : TraceAsked → ℕ → Option Seen → WasmWorld → List ℕ
line_if asked t None v = []
line_if asked t (Some s) v = cond (is_since asked.since v) (event_line t s.place (standing_text asked.places s.standing) s.action s.found (measured s.action v) (outcome_in v t)) []

by_parts : (a b c : Bool) (line : List ℕ) (f : Option Seen → List ℕ) (s : Seen) → f None ≡ [] → f (Some s) ≡ cond c line [] → cond (a && (b && c)) line [] ≡ f (cond (a && b) (Some s) None)
by_parts false b c line f s none some = sym none
by_parts true false c line f s none some = sym none
by_parts true true c line f s none some = sym some

pub line_by : (asked : TraceAsked) (t : ℕ) (o : Option Seen) (v : WasmWorld) → line_of asked t o v ≡ line_if asked t (seen_if asked.only asked.bytes t o) v
line_by asked t None v = refl
line_by asked t (Some s) v =
    by_parts (is_of_threads asked.only t) (is_of_ranges asked.bytes s.action) (is_since asked.since v) (event_line t s.place (standing_text asked.places s.standing) s.action s.found (measured s.action v) (outcome_in v t))
    (λ o. line_if asked t o v) s refl refl

-- of a thread that is not asked for nothing is seen, nor of an action that is not
pub seen_not : (only : List ℕ) (bytes : List ByteRange) (t : ℕ) (o : Option Seen) → is_of_threads only t ≡ false → seen_if only bytes t o ≡ None
seen_not only bytes t None unasked = refl
seen_not only bytes t (Some s) unasked = ap (λ b. cond (b && is_of_ranges bytes s.action) (Some s) None) unasked

pub seen_past : (only : List ℕ) (bytes : List ByteRange) (w : WasmWorld) (t : ℕ) → length w.threads ≤ t → seen_if only bytes t (seen_of w t) ≡ None
seen_past only bytes w t past = ap (λ o. seen_if only bytes t (seen_by w o (action_of w t))) (slice_get_past w.threads t past)

both : (a b : Bool) (s : Seen) → a ≡ true → b ≡ true → Some s ≡ cond (a && b) (Some s) None
both a b s p q = sym (ap (λ x. cond (x && b) (Some s) None) p ∙ ap (λ x. cond x (Some s) None) q)

asked_by : (only : List ℕ) (bytes : List ByteRange) (w : WasmWorld) (t : ℕ) (action : Action) (o : Option (ThreadAt CodeThread)) → is_of_threads only t ≡ true → is_of_ranges bytes action ≡ true → seen_by w o (Some action) ≡ seen_if only bytes t (seen_by w o (Some action))
asked_by only bytes w t action None of_thread of_range = refl
asked_by only bytes w t action (Some th) of_thread of_range = both (is_of_threads only t) (is_of_ranges bytes action) _ of_thread of_range

pub seen_asked : (only : List ℕ) (bytes : List ByteRange) (w : WasmWorld) (t : ℕ) (action : Action) → is_of_threads only t ≡ true → is_of_ranges bytes action ≡ true → Some action ≡ action_of w t
    → seen_by w (slice_get w.threads t) (Some action) ≡ seen_if only bytes t (seen_of w t)
seen_asked only bytes w t action of_thread of_range is =
    asked_by only bytes w t action (slice_get w.threads t) of_thread of_range ∙ ap (λ o. seen_if only bytes t (seen_by w (slice_get w.threads t) o)) is

-- ---- the same question

pub asked_same : (m : Module) (places : PlaceForm) (a b : TraceChoice) → places ≡ record { source = m.source; offsets = b.offsets } → a ≡ b → asked_with places a ≡ asked_of m b
asked_same m places a b same_places same_choice = ap (λ (p : PlaceForm). asked_with p a) same_places ∙ ap (asked_with (record { source = m.source; offsets = b.offsets })) same_choice

-- ---- the lines

module _ (m : Module) (plan : PlanValue) (log handed : GatheredLog) (order : List ℕ) (breaks : List Break) (opened v : WasmWorld) (asked : TraceAsked) where
  -- each world on the way is right by each run of the opening world whose log the log is below
  way : (o : Opener) → handed ≡ log → IsOpenerOf m plan log o → opened ≡ opened_world m plan (key_of log).profile → (k : ℕ)
      → ShowsRecorded shared_memory thread_code (gathered_log handed) (opened_world o.valid.now o.plan.now o.profile) (ordered_world shared_memory thread_code (gathered_log handed) opened order k)
      → (w : WasmWorld) → Opens m plan log w → ShowsRecorded shared_memory thread_code (gathered_log log) w (ordered_world shared_memory thread_code (gathered_log log) w order k)
  way o same_log is same_world k h w opens =
      let at_w : opened_world m plan (key_of log).profile ≡ w = ap (world_or_empty m (key_of log).profile) opens in
      let first : opened_world o.valid.now o.plan.now o.profile ≡ w =
      ap (λ (x : Module). opened_world x o.plan.now o.profile) is.module
      ∙ ap (λ (x : PlanValue). opened_world m x o.profile) is.plan_is
      ∙ ap (opened_world m plan) is.profile
      ∙ at_w in
      subst (λ (x : WasmWorld). ShowsRecorded shared_memory thread_code (gathered_log log) w (ordered_world shared_memory thread_code (gathered_log log) x order k)) (same_world ∙ at_w)
      (subst (λ (x : WasmWorld). ShowsRecorded shared_memory thread_code (gathered_log log) x (ordered_world shared_memory thread_code (gathered_log log) opened order k)) first
      (subst (λ (l : GatheredLog). ShowsRecorded shared_memory thread_code (gathered_log l) (opened_world o.valid.now o.plan.now o.profile) (ordered_world shared_memory thread_code (gathered_log l) opened order k)) same_log h))

  pub lines_of : (o : Opener) → handed ≡ log → IsOpenerOf m plan log o → ((w : WasmWorld) → Opens m plan log w → opened ≡ w)
      → ((k : ℕ) → ShowsRecorded shared_memory thread_code (gathered_log handed) (opened_world o.valid.now o.plan.now o.profile) (ordered_world shared_memory thread_code (gathered_log handed) opened order k))
      → (turns : ℕ) (lines : List ℕ) → v ≡ ordered_world shared_memory thread_code (gathered_log handed) opened order turns
      → lines ≡ notes shared_memory thread_code (trace_note asked) (gathered_log handed) opened order turns
      → (w : WasmWorld) → Opens m plan log w → AreLines m plan log order breaks asked w v lines
  lines_of o same_log is same_world h turns lines at noted w opens =
      let e = same_world w opens in
      let first : opened ≡ opened_world m plan (key_of log).profile = e ∙ sym (ap (world_or_empty m (key_of log).profile) opens) in
      record {
        turns = turns;
        leads = at ∙ ap (λ (l : GatheredLog). ordered_world shared_memory thread_code (gathered_log l) opened order turns) same_log ∙ ap (λ (x : WasmWorld). ordered_world shared_memory thread_code (gathered_log log) x order turns) e;
        is = noted
            ∙ ap (λ (l : GatheredLog). notes shared_memory thread_code (trace_note asked) (gathered_log l) opened order turns) same_log
            ∙ ap (λ (x : WasmWorld). notes shared_memory thread_code (trace_note asked) (gathered_log log) x order turns) e;
        recorded = λ k l. way o same_log is first k (h k) w opens;
      }

  -- the lines, and the view of the world at which it stopped
  pub trace_of : (shown_at : WasmWorld) (s : Stopped) (power : ℕ) (lines view text : List ℕ) → StopsAt shared_memory thread_code (gathered_log handed) opened order breaks v s → handed ≡ log → ((w : WasmWorld) → Opens m plan log w → opened ≡ w)
      → shown_at ≡ v → power ≡ block_power (key_of log).profile → IsShown s breaks → (stood : List (List ℕ)) → AreNotes m plan log order asked.places shown_at stood → IsView shared_memory thread_code shown_at power s breaks stood 0 0 view
      → ((w : WasmWorld) → Opens m plan log w → AreLines m plan log order breaks asked w v lines) → text ≡ lines ++ view → IsTraceOfLog m plan log order breaks asked text
  trace_of shown_at s power lines view text h same_log same_world same_end same_power is_shown stood are_notes is_view are_lines is = record {
    world = v;
    stopped = s;
    stops = shown_of m plan log handed order breaks opened v s h same_log same_world is_shown;
    lines = lines;
    are_lines = are_lines;
    view = view;
    notes = stood;
    are_notes = subst (λ (x : WasmWorld). AreNotes m plan log order asked.places x stood) same_end are_notes;
    is_view = subst (λ (x : WasmWorld). IsView shared_memory thread_code x (block_power (key_of log).profile) s breaks stood 0 0 view) same_end
        (subst (λ (p : ℕ). IsView shared_memory thread_code shown_at p s breaks stood 0 0 view) same_power is_view);
    is = is;
  }
