-- Traces of gathered logs: a line for each event of the ordered replay from the opening world of a module and a plan
-- that is asked for, and the view of the world at which it stops.
use Rattle.std.specs.Prelude.{◌≡◌, ℕ, ◌≤◌, List, ◌++◌}
use Rattle.wasm_types.specs.declared.modules.Module.{Module}
use Rattle.wasm_types.specs.Memories.{block_power}
use Rattle.block_objects.specs.SharedMemory.{shared_memory}
use Rattle.wasm_world.specs.Plans.{PlanValue}
use Rattle.wasm_world.specs.Opening.{WasmWorld}
use Rattle.wasm_world.specs.ThreadCode.{thread_code}
use Rattle.replica.specs.declared.log.Log.{Log as GatheredLog}
use Rattle.replica.specs.Log.{key_of}
use Rattle.replay_laws.specs.Ordered.{ordered_world}
use Rattle.replay_gate.specs.Shows.{ShowsRecorded}
use Rattle.replay_gate.specs.declared.breaks.Break.{Break}
use Rattle.replay_gate.specs.declared.breaks.Stopped.{Stopped}
use Rattle.replay_gate.specs.Notes.{notes as noted}
use Rattle.wasm_replay.specs.Replays.{Opens, IsOfRun, gathered_log}
use Rattle.debug_views.specs.declared.trace_choice.TraceChoice.{TraceChoice}
use Rattle.debug_views.specs.declared.tracing.TraceFault.{TraceFault}
use Rattle.debug_views.specs.declared.tracing.TraceFault.TheVariants.{Replay, NoMemory}
use Rattle.debug_views.specs.Stopping.{StopsToShow}
use Rattle.debug_views.specs.Text.{IsView}
use Rattle.debug_views.specs.Trace.{TraceAsked, asked_with, trace_note}
use Rattle.debug_views.specs.ThreadNotes.{AreNotes}
use Rattle.debug_views.specs.Views.{IsNotReplayed}

-- places by the module's bytes, and the events that are chosen
abbrev pub asked_of : Module → TraceChoice → TraceAsked
asked_of m choice = asked_with (record { source = m.source; offsets = choice.offsets }) choice

module _ (m : Module) (plan : PlanValue) (log : GatheredLog) (order : List ℕ) (breaks : List Break) where
  -- the lines of the events of the turns that lead from world w to world v; each world on the way is right by each run
  -- whose log the log is below
  pub record AreLines (asked : TraceAsked) (w v : WasmWorld) (lines : List ℕ) : Type 0 where
    pub turns : ℕ
    pub leads : v ≡ ordered_world shared_memory thread_code (gathered_log log) w order turns
    pub is : lines ≡ noted shared_memory thread_code (trace_note asked) (gathered_log log) w order turns
    pub recorded : (k : ℕ) → k ≤ turns → ShowsRecorded shared_memory thread_code (gathered_log log) w (ordered_world shared_memory thread_code (gathered_log log) w order k)

  -- the lines of the events up to where the replay stops, and the view of that world
  pub record IsTraceOfLog (asked : TraceAsked) (text : List ℕ) : Type 0 where
    pub world : WasmWorld
    pub stopped : Stopped
    pub stops : StopsToShow m plan log order breaks world stopped
    pub lines : List ℕ
    pub are_lines : (w : WasmWorld) → Opens m plan log w → AreLines asked w world lines
    pub notes : List (List ℕ)
    pub are_notes : AreNotes m plan log order asked.places world notes
    pub view : List ℕ
    pub is_view : IsView shared_memory thread_code world (block_power (key_of log).profile) stopped breaks notes 0 0 view
    pub is : text ≡ lines ++ view

  -- the log is of another run, its replay comes to a fault, or memory is wanting
  abbrev pub IsNotTraced : TraceFault → Type 0
  IsNotTraced (Replay u) = IsNotReplayed m plan log order breaks u.fault
  IsNotTraced NoMemory = IsOfRun m plan log
