-- What `dap` answers, by the requests that its source brings and what the files may hold that a launch names.
use Rattle.std.specs.Prelude.{◌≡◌, ◌⊎◌, ℕ, false, List, [], ◌∷◌, ◌++◌, Result, Ok, Err, codes}
use Rattle.wasm_types.specs.declared.modules.Module.{Module}
use Rattle.thread_plan.specs.Plans.{PlanValue}
use Rattle.replica.specs.declared.log.Log.{Log}
use Rattle.replica.specs.declared.fault.GatherFault.TheVariants as gathering
use Rattle.wasm_replay.specs.Replays.{IsNotOpened, IsOfRun}
use Rattle.debugger.specs.Replies.{DebugAt, IsOpening}
use Rattle.adapter.specs.FrameFault.{FrameFault}
use Rattle.adapter.specs.FrameFault.TheVariants as frame
use Rattle.adapter.specs.Command.{Command}
use Rattle.adapter.specs.Command.TheVariants.{Launch}
use Rattle.adapter.specs.Request.{Request}
use Rattle.adapter.specs.Exchanges.{At, at_of, IsBroken, IsEnded, IsResumed, IsUnresumed, IsWaiting}
use Rattle.adapter.specs.Ended.{Ended}
use Rattle.adapter.specs.Ended.TheVariants.{Asked, HeldBack, NothingMore}
use Rattle.adapter.specs.ExchangeFault.{ExchangeFault}
use Rattle.adapter.specs.ExchangeFault.TheVariants as exchange
use Rattle.adapter.specs.Attends.{Attends}
use Rattle.adapter.specs.Replies.{failure}
use Rattle.adapter.specs.State.{AdapterAt, opening_of}
use Rattle.adapter.specs.Waits.{Waits, holds_back, launched_reply}
use Rattle.adapter.specs.declared.waiting.Waiting.{Waiting}
use Rattle.adapter.specs.declared.waiting.Waiting.TheVariants.{ForEnd, ForLaunch}
use Rattle.command_words.specs.declared.requests.ReplayRequest.{ReplayRequest}
use Rattle.commands.specs.Replays.{IsInputRefused, IsReplayInput}
use Rattle.commands.specs.Texts.{fault_text}
use Rattle.commands.specs.declared.fault.Fault.{Fault}
use Rattle.commands.specs.declared.fault.Fault.TheVariants.{BadFrame, Gather, NoMemory, Replay, SinkFailed}

-- ---- the program's fault where an exchange stops

abbrev pub frame_fault : FrameFault → Fault
frame_fault frame.SourceFailed = Gather gathering.SourceFailed
frame_fault frame.NoMemory = NoMemory
frame_fault f = BadFrame f

abbrev pub fault_of : ExchangeFault → Fault
fault_of (exchange.Frame f) = frame_fault f
fault_of exchange.SinkFailed = SinkFailed
fault_of exchange.NoMemory = NoMemory

abbrev pub outcome_of : Result Ended ExchangeFault → Result (Unit {0}) Fault
outcome_of (Ok end) = Ok tt
outcome_of (Err f) = Err (fault_of f)

-- ---- how many calls failed, by what came of it

-- of the source
abbrev pub source_failures_of : Fault → ℕ
source_failures_of (Gather gathering.SourceFailed) = 1
source_failures_of _ = 0

abbrev pub source_failures_in : {X : Type 0} → Result X Fault → ℕ
source_failures_in (Ok x) = 0
source_failures_in (Err fault) = source_failures_of fault

-- of the output
abbrev pub output_failures_of : Fault → ℕ
output_failures_of SinkFailed = 1
output_failures_of _ = 0

abbrev pub output_failures_in : {X : Type 0} → Result X Fault → ℕ
output_failures_in (Ok x) = 0
output_failures_in (Err fault) = output_failures_of fault

-- ---- what a launch comes to

-- a launch names the files of this replay, one of them of pieces
abbrev pub Names : Command → ReplayRequest → Type 0
Names (Launch m plan (pieces ∷ [])) r = (r.«module».now ≡ m) × (r.plan.now ≡ plan) × (r.pieces.now ≡ pieces) × (r.order.items ≡ [])
Names _ r = ⊥

-- what is said of a launch that names none
abbrev pub no_files : List ℕ
no_files = codes "error: launch needs module, plan, and pieces, a list of one file"

-- no adapter is opened over the replay of a log
abbrev pub IsUnopened : Module → PlanValue → Log → Fault → Type 0
IsUnopened m plan log (Replay u) = IsNotOpened m plan log u.fault
IsUnopened m plan log NoMemory = Unit {0}
IsUnopened m plan log _ = ⊥

-- an adapter stands before its first request over the replay of a log
abbrev pub IsOpened : Module → PlanValue → Log → AdapterAt → Type 0
IsOpened m plan log a = (start : DebugAt) × IsOpening m plan log start × (a ≡ opening_of start)

-- ---- a launch that is answered, whose response has a number, and what came behind it

-- What came, and whether nothing more comes.
module _ (came : List ℕ) (ended : Type 0) (request : Request) (number : ℕ) where
  -- by an adapter over the replay of a log, or by a failure where none is opened
  abbrev pub IsReplayAnswered : Module → PlanValue → Log → List ℕ → Type 0
  IsReplayAnswered m plan log text =
      ((a : AdapterAt) × IsOfRun m plan log × IsOpened m plan log a × (end : Ended) × (u : At AdapterAt) × IsResumed (λ c s. false) Attends came (at_of a number) ended request launched_reply end text u)
      ⊎ ((fault : Fault) × IsUnopened m plan log fault × (end : Ended) × (u : At Waiting) × IsResumed holds_back Waits came (at_of ForEnd number) ended request (failure (fault_text fault)) end text u)

  -- not all of it, by that fault
  abbrev pub IsReplayBroken : Fault → Module → PlanValue → Log → List ℕ → Type 0
  IsReplayBroken broke m plan log text =
      ((a : AdapterAt) × IsOfRun m plan log × IsOpened m plan log a × (f : ExchangeFault) × (broke ≡ fault_of f) × (u : At AdapterAt) × IsUnresumed (λ c s. false) Attends came (at_of a number) ended request launched_reply f text u)
      ⊎ ((fault : Fault) × IsUnopened m plan log fault × (f : ExchangeFault) × (broke ≡ fault_of f) × (u : At Waiting) × IsUnresumed holds_back Waits came (at_of ForEnd number) ended request (failure (fault_text fault)) f text u)

  -- What the files may hold, and which may fail.
  module _ (holds : List ℕ → List ℕ → Type 0) (fails : List ℕ → Type 0) where
    -- the files that the launch names hold the module, the plan and the log
    abbrev pub IsInputOf : Module → PlanValue → Log → Type 0
    IsInputOf m plan log = (r : ReplayRequest) × Names request.command r × IsReplayInput holds r m plan log

    -- the launch names no files, or they are refused; this is what is said of it
    abbrev pub IsUnread : List ℕ → Type 0
    IsUnread message = (((r : ReplayRequest) → Names request.command r → ⊥) × (message ≡ no_files))
        ⊎ ((r : ReplayRequest) × (fault : Fault) × Names request.command r × IsInputRefused holds fails r fault × (message ≡ fault_text fault))

    -- by the log in the files, or by a failure where there is none
    abbrev pub IsAnsweredBehind : List ℕ → Type 0
    IsAnsweredBehind text = ((m : Module) × (plan : PlanValue) × (log : Log) × IsInputOf m plan log × IsReplayAnswered m plan log text)
        ⊎ ((message : List ℕ) × IsUnread message × (end : Ended) × (u : At Waiting) × IsResumed holds_back Waits came (at_of ForEnd number) ended request (failure message) end text u)

    -- not all of it, by that fault
    abbrev pub IsBrokenBehind : Fault → List ℕ → Type 0
    IsBrokenBehind broke text = ((m : Module) × (plan : PlanValue) × (log : Log) × IsInputOf m plan log × IsReplayBroken broke m plan log text)
        ⊎ ((message : List ℕ) × IsUnread message × (f : ExchangeFault) × (broke ≡ fault_of f) × (u : At Waiting) × IsUnresumed holds_back Waits came (at_of ForEnd number) ended request (failure message) f text u)

-- ---- the whole exchange

-- no launch was held back
abbrev pub IsOver : Ended → Type 0
IsOver Asked = Unit {0}
IsOver NothingMore = Unit {0}
IsOver (HeldBack request) = ⊥

-- where an exchange stands before its first request
abbrev pub start : At Waiting
start = at_of ForLaunch 1

-- What came.
module _ (came : List ℕ) where
  -- up to a launch all is answered; what came of the launch and of what came behind it is said by its number
  pub record IsUpToLaunch (Behind : (rest : List ℕ) → Request → (number : ℕ) → List ℕ → Type 0) (text : List ℕ) : Type 0 where
    pub first : List ℕ
    pub rest : List ℕ
    pub is_came : came ≡ first ++ rest
    pub request : Request
    pub answers : List ℕ
    pub u : At Waiting
    pub before : IsWaiting holds_back Waits first start request answers u
    pub behind : List ℕ
    pub goes : Behind rest request u.number behind
    pub is : text ≡ answers ++ behind

  -- Whether nothing more comes, what the files may hold, and which may fail.
  module _ (ended : Type 0) (holds : List ℕ → List ℕ → Type 0) (fails : List ℕ → Type 0) where
    -- all is answered up to an end, without a launch or behind one
    abbrev pub IsAdapted : List ℕ → Type 0
    IsAdapted text = ((end : Ended) × IsOver end × (u : At Waiting) × IsEnded holds_back Waits came start ended end text u)
        ⊎ IsUpToLaunch (λ rest request number behind. IsAnsweredBehind rest ended request number holds fails behind) text

    -- not all is answered, by this fault
    abbrev pub IsAdapterStopped : Fault → List ℕ → Type 0
    IsAdapterStopped fault text = ((f : ExchangeFault) × (fault ≡ fault_of f) × (u : At Waiting) × IsBroken holds_back Waits came start ended f text u)
        ⊎ IsUpToLaunch (λ rest request number behind. IsBrokenBehind rest ended request number holds fails fault behind) text
