-- What `debug` answers, by what its three files may hold and what its source brings.
use Rattle.std.specs.Prelude.{◌≡◌, ◌⊎◌, ℕ, List}
use Rattle.wasm_types.specs.declared.modules.Module.{Module}
use Rattle.thread_plan.specs.Plans.{PlanValue}
use Rattle.replica.specs.declared.log.Log.{Log}
use Rattle.replica.specs.declared.fault.GatherFault.TheVariants as gathering
use Rattle.wasm_replay.specs.Replays.{IsOfRun}
use Rattle.debugger.specs.Dialogue.{IsDialogue, IsDialogueStopped}
use Rattle.debugger.specs.declared.debugging.DebugFault.{DebugFault}
use Rattle.debugger.specs.declared.debugging.DebugFault.TheVariants as debugging
use Rattle.command_words.specs.declared.requests.ReplayRequest.{ReplayRequest}
use Rattle.commands.specs.Replays.{IsReplayInput, IsInputRefused}
use Rattle.commands.specs.declared.fault.Fault.{Fault}
use Rattle.commands.specs.declared.fault.Fault.TheVariants.{Replay, Gather, SinkFailed}

-- the program's fault where a dialogue stops before its end
abbrev pub fault_of : DebugFault → Fault
fault_of (debugging.Replay refused) = Replay refused
fault_of debugging.SourceFailed = Gather gathering.SourceFailed
fault_of debugging.SinkFailed = SinkFailed

-- What the source brought, whether it ended, and which text the output took.
module _ (brought : List ℕ → Type 0) (ended : Type 0) (took : List ℕ → Type 0) where
  -- the dialogue about the log stops with this fault; `unused` says that nothing was read from the source or written,
  -- `broke` that the source failed, and `unwritable` that the output did
  abbrev pub IsBroken : Type 0 → Type 0 → Type 0 → Module → PlanValue → Log → List ℕ → Fault → Type 0
  IsBroken unused broke unwritable m plan log order fault = (stop : DebugFault) × (fault ≡ fault_of stop) × IsDialogueStopped m plan log order brought ended took unused broke unwritable stop

  module _ (holds : List ℕ → List ℕ → Type 0) where
    -- the dialogue about the log in the files stops before its end
    abbrev pub IsDebugBroken : Type 0 → Type 0 → Type 0 → ReplayRequest → Fault → Type 0
    IsDebugBroken unused broke unwritable request fault =
        (m : Module) × (plan : PlanValue) × (log : Log) × IsReplayInput holds request m plan log × IsBroken unused broke unwritable m plan log request.order.items fault

    -- the first refusal: of the module, else of the plan, else of the piece lines, else of their dialogue, of which alone
    -- a beginning may have been written
    abbrev pub IsDebugStopped : (List ℕ → Type 0) → Type 0 → Type 0 → Type 0 → ReplayRequest → Fault → Type 0
    IsDebugStopped fails unused broke unwritable request fault =
        (IsInputRefused holds fails request fault × unused) ⊎ IsDebugBroken unused broke unwritable request fault

module _ (brought : List ℕ → Type 0) (ended : Type 0) (holds : List ℕ → List ℕ → Type 0) where
  -- the log in the files can be of a run of their module and plan, and these are the answers to the commands that came
  pub record IsDebugText (request : ReplayRequest) (text : List ℕ) : Type 0 where
    pub m : Module
    pub plan : PlanValue
    pub log : Log
    pub input : IsReplayInput holds request m plan log
    pub of_run : IsOfRun m plan log
    pub dialogue : IsDialogue m plan log request.order.items brought ended text

  -- which the output took
  abbrev pub IsShownDebug : (List ℕ → Type 0) → ReplayRequest → Type 0
  IsShownDebug took request = (text : List ℕ) × IsDebugText request text × took text
