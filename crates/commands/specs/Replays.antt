-- What `replay` answers, by what its three files may hold.
use Rattle.std.specs.Prelude.{◌≡◌, ◌⊎◌, ℕ, Bool, true, false, List}
use Rattle.wasm_types.specs.declared.modules.Module.{Module}
use Rattle.wasm_record.specs.End.{RunEnd}
use Rattle.thread_plan.specs.Plans.{PlanValue}
use Rattle.replica.specs.declared.log.Log.{Log}
use Rattle.wasm_replay.specs.Replays.{IsOfRun, IsOrderedAnswer, EndsAsRecorded, IsRefusal}
use Rattle.threaded_replay.specs.Threaded.{IsThreadsRefusal}
use Rattle.debug_views.specs.Report.{noted_text}
use Rattle.debug_views.specs.ThreadNotes.{AreNotesOfEnd}
use Rattle.debug_views.specs.declared.notes.Notes.{Notes}
use Rattle.commands.specs.Inputs.{IsProgram, IsProgramRefused, IsLogFile, IsLinesRefused}
use Rattle.commands.specs.declared.fault.Fault.{Fault}
use Rattle.commands.specs.declared.fault.Fault.TheVariants.{Replay, NoMemory}
use Rattle.command_words.specs.declared.requests.ReplayRequest.{ReplayRequest}

-- the end of the replay of a log in an order
pub record IsReplayEnd (m : Module) (plan : PlanValue) (log : Log) (order : List ℕ) (end : RunEnd) : Type 0 where
  pub ordered : IsOrderedAnswer m plan log order end
  pub recorded : EndsAsRecorded m plan log end

-- the log can be of a run of the module and plan, and this is the report of that end, with what is asked for of where
-- threads stand there
pub record IsReplayReport (m : Module) (plan : PlanValue) (log : Log) (order : List ℕ) (asked : Notes) (text : List ℕ) : Type 0 where
  pub of_run : IsOfRun m plan log
  pub end : RunEnd
  pub ends : IsReplayEnd m plan log order end
  pub notes : List (List ℕ)
  pub are_notes : AreNotesOfEnd m plan log order asked notes
  pub is : text ≡ noted_text notes end

-- the log is refused by the replay, or there is no memory for a text
abbrev pub IsReplayRefusal : Module → PlanValue → Log → List ℕ → Fault → Type 0
IsReplayRefusal m plan log order (Replay refused) = IsRefusal m plan log order refused.fault
IsReplayRefusal m plan log order NoMemory = Unit {0}
IsReplayRefusal m plan log order _ = ⊥

-- the same where threads replay at once
abbrev pub IsThreadsFault : Module → PlanValue → Log → Fault → Type 0
IsThreadsFault m plan log (Replay refused) = IsThreadsRefusal m plan log refused.fault
IsThreadsFault m plan log NoMemory = Unit {0}
IsThreadsFault m plan log _ = ⊥

-- by whether they do
abbrev pub IsRefusedBy : Bool → Module → PlanValue → Log → List ℕ → Fault → Type 0
IsRefusedBy true m plan log order fault = IsThreadsFault m plan log fault
IsRefusedBy false m plan log order fault = IsReplayRefusal m plan log order fault

module _ (holds : List ℕ → List ℕ → Type 0) where
  -- the module, the plan and the log in the files
  pub record IsReplayInput (request : ReplayRequest) (m : Module) (plan : PlanValue) (log : Log) : Type 0 where
    pub has_program : IsProgram holds request.«module».now request.plan.now m plan
    pub has_log : IsLogFile (holds request.pieces.now) m plan log

  -- the first refusal: of the module, else of the plan, else of the piece lines
  abbrev pub IsInputRefused : (List ℕ → Type 0) → ReplayRequest → Fault → Type 0
  IsInputRefused fails request fault = IsProgramRefused holds fails request.«module».now request.plan.now fault
      ⊎ ((m : Module) × (plan : PlanValue) × IsProgram holds request.«module».now request.plan.now m plan × IsLinesRefused (holds request.pieces.now) (fails request.pieces.now) fault)

  -- the report of the end, in turns or by threads: it is the same
  pub record IsReplayedText (request : ReplayRequest) (asked : Notes) (text : List ℕ) : Type 0 where
    pub m : Module
    pub plan : PlanValue
    pub log : Log
    pub input : IsReplayInput request m plan log
    pub report : IsReplayReport m plan log request.order.items asked text

  -- the files are refused, else the replay
  abbrev pub IsReplayRefused : (List ℕ → Type 0) → ReplayRequest → Bool → Fault → Type 0
  IsReplayRefused fails request by_threads fault = IsInputRefused fails request fault
      ⊎ ((m : Module) × (plan : PlanValue) × (log : Log) × IsReplayInput request m plan log × IsRefusedBy by_threads m plan log request.order.items fault)
