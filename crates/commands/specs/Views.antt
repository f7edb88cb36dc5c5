-- What `view` answers, by what its three files may hold.
use Rattle.std.specs.Prelude.{◌≡◌, ◌⊎◌, ℕ, List, [], ◌∷◌, ◌++◌, Option, Some, None}
use Rattle.wasm_types.specs.declared.modules.Module.{Module}
use Rattle.thread_plan.specs.Plans.{PlanValue}
use Rattle.wasm_types.specs.Memories.{block_power}
use Rattle.replica.specs.declared.log.Log.{Log}
use Rattle.replica.specs.Log.{key_of}
use Rattle.debug_views.specs.Break.{Break}
use Rattle.debug_views.specs.Break.TheVariants as break
use Rattle.debug_views.specs.Writes.{IsWriteOfRange}
use Rattle.wasm_replay.specs.Replays.{IsOfRun}
use Rattle.debug_views.specs.Views.{IsViewOfLog, IsNotViewed}
use Rattle.debug_views.specs.declared.viewing.WasmViewFault.{WasmViewFault}
use Rattle.debug_views.specs.declared.viewing.WasmViewFault.TheVariants as viewing
use Rattle.wasm_types.specs.declared.range.ByteRange.{ByteRange}
use Rattle.command_words.specs.declared.requests.ThreadCount.{ThreadCount}
use Rattle.command_words.specs.declared.requests.ViewRequest.{ViewRequest}
use Rattle.commands.specs.Notes.{notes_by}
use Rattle.commands.specs.Replays.{IsReplayInput, IsInputRefused}
use Rattle.commands.specs.declared.fault.Fault.{Fault}
use Rattle.commands.specs.declared.fault.Fault.TheVariants.{Replay, View}

abbrev pub place_break : Option ThreadCount → List Break
place_break None = []
place_break (Some c) = break.Place c.thread c.count ∷ []

abbrev pub step_break : Option ThreadCount → List Break
step_break None = []
step_break (Some c) = break.Step c.thread c.count ∷ []

-- a break behind the writes of the range, where blocks have 2 ^ power bytes
abbrev pub AreWrites : ℕ → Option ByteRange → List Break → Type 0
AreWrites power None breaks = breaks ≡ []
AreWrites power (Some r) breaks = (b : Break) × IsWriteOfRange power r.from r.len b × (breaks ≡ b ∷ [])

-- the breaks of the request: at a place, at a step, behind a write
abbrev pub AreBreaks : ViewRequest → ℕ → List Break → Type 0
AreBreaks r power breaks = (writes : List Break) × AreWrites power r.write writes × (breaks ≡ place_break r.place ++ (step_break r.step ++ writes))

module _ (m : Module) (plan : PlanValue) (log : Log) (r : ViewRequest) where
  -- the log can be of a run of the module and plan, and this is the view where its replay stops, at one of the breaks
  -- or where no thread goes on
  pub record IsViewText (text : List ℕ) : Type 0 where
    pub of_run : IsOfRun m plan log
    pub breaks : List Break
    pub are_breaks : AreBreaks r (block_power (key_of log).profile) breaks
    pub view : IsViewOfLog m plan log r.replay.order.items breaks (notes_by r.names r.offsets) r.range.from r.range.len text

  pub record IsViewFault (fault : WasmViewFault) : Type 0 where
    pub breaks : List Break
    pub are_breaks : AreBreaks r (block_power (key_of log).profile) breaks
    pub refused : IsNotViewed m plan log r.replay.order.items breaks r.range.from r.range.len fault

  abbrev pub IsViewRefusal : Fault → Type 0
  IsViewRefusal (Replay refused) = IsViewFault (viewing.Replay refused)
  IsViewRefusal (View fault) = IsViewFault (viewing.View fault)
  IsViewRefusal _ = ⊥

module _ (holds : List ℕ → List ℕ → Type 0) where
  pub record IsViewedText (request : ViewRequest) (text : List ℕ) : Type 0 where
    pub m : Module
    pub plan : PlanValue
    pub log : Log
    pub input : IsReplayInput holds request.replay m plan log
    pub view : IsViewText m plan log request text

  -- the first refusal: of the module, else of the plan, else of the piece lines, else of their view
  abbrev pub IsViewRefused : (List ℕ → Type 0) → ViewRequest → Fault → Type 0
  IsViewRefused fails request fault = IsInputRefused holds fails request.replay fault
      ⊎ ((m : Module) × (plan : PlanValue) × (log : Log) × IsReplayInput holds request.replay m plan log × IsViewRefusal m plan log request fault)
