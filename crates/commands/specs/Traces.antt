-- What `trace` answers, by what its three files may hold.
use Rattle.std.specs.Prelude.{◌⊎◌, ℕ, ◌+◌, ◌-◌, ◌^◌, List, [], ◌∷◌, Option, Some, None, min, option_map}
use Rattle.wasm_types.specs.declared.modules.Module.{Module}
use Rattle.thread_plan.specs.Plans.{PlanValue}
use Rattle.replica.specs.declared.log.Log.{Log}
use Rattle.debug_views.specs.Break.{Break}
use Rattle.debug_views.specs.Break.TheVariants as break
use Rattle.wasm_replay.specs.Replays.{IsOfRun}
use Rattle.debug_views.specs.Trace.{TraceAsked}
use Rattle.debug_views.specs.Traces.{IsTraceOfLog, IsNotTraced}
use Rattle.debug_views.specs.declared.tracing.TraceFault.TheVariants as tracing
use Rattle.command_words.specs.declared.requests.ThreadCount.{ThreadCount}
use Rattle.command_words.specs.declared.requests.TraceRequest.{TraceRequest}
use Rattle.commands.specs.Replays.{IsReplayInput, IsInputRefused}
use Rattle.commands.specs.declared.fault.Fault.{Fault}
use Rattle.commands.specs.declared.fault.Fault.TheVariants.{Replay, NoMemory}

-- the break behind the last event that has a line
abbrev pub last_break : Option ThreadCount → List Break
last_break None = []
last_break (Some c) = break.Place c.thread (min (c.count + 1) (2 ^ 32 - 1)) ∷ []

-- what is asked of the replay of a module's log
abbrev pub asked_by : Module → TraceRequest → TraceAsked
asked_by m r = record {
  places = record { source = m.source; offsets = r.offsets };
  only = r.only.items;
  bytes = r.bytes.items;
  since = option_map (λ c. record { thread = c.thread; place = c.count }) r.from;
}

module _ (m : Module) (plan : PlanValue) (log : Log) (r : TraceRequest) where
  -- the log can be of a run of the module and plan, and this is its trace up to the last event that is asked for, or to
  -- where no thread goes on
  pub record IsTraceText (text : List ℕ) : Type 0 where
    pub of_run : IsOfRun m plan log
    pub trace : IsTraceOfLog m plan log r.replay.order.items (last_break r.to) (asked_by m r) text

  abbrev pub IsTraceRefusal : Fault → Type 0
  IsTraceRefusal (Replay refused) = IsNotTraced m plan log r.replay.order.items (last_break r.to) (tracing.Replay refused)
  IsTraceRefusal NoMemory = IsNotTraced m plan log r.replay.order.items (last_break r.to) tracing.NoMemory
  IsTraceRefusal _ = ⊥

module _ (holds : List ℕ → List ℕ → Type 0) where
  pub record IsTracedText (request : TraceRequest) (text : List ℕ) : Type 0 where
    pub m : Module
    pub plan : PlanValue
    pub log : Log
    pub input : IsReplayInput holds request.replay m plan log
    pub trace : IsTraceText m plan log request text

  -- the first refusal: of the module, else of the plan, else of the piece lines, else of their trace
  abbrev pub IsTraceRefused : (List ℕ → Type 0) → TraceRequest → Fault → Type 0
  IsTraceRefused fails request fault = IsInputRefused holds fails request.replay fault
      ⊎ ((m : Module) × (plan : PlanValue) × (log : Log) × IsReplayInput holds request.replay m plan log × IsTraceRefusal m plan log request fault)
