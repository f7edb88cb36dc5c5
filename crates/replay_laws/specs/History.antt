-- Legal histories: calls of many threads in one order, and what each thread does on its own between its calls.
use Rattle.std.specs.Prelude.{◌≡◌, ℕ, ◌<◌, ◌≤◌, ◌+◌, ◌==◌, Bool, true, cond, List, [], ◌∷◌, ◌++◌, length, Option, Some, None, slice_get}
use Rattle.rw_objects.specs.declared.entry.Entry.{Entry}
use Rattle.rw_objects.specs.declared.next.Next.{Next}
use Rattle.rw_objects.specs.declared.next.Next.TheVariants as next
use Rattle.rw_objects.specs.Space.{Space, is_ready, reply_of}
use Rattle.rw_objects.specs.Code.{Code}
use Rattle.rw_objects.specs.Memory.{Memory, entry_of, memory_after}
use Rattle.event_core.specs.declared.pick.Pick.{Pick}
use Rattle.event_core.specs.declared.pick.Input.{Input}
use Rattle.event_core.specs.declared.pick.Input.TheVariants.{Go, TimeOut}
use Rattle.event_core.specs.declared.step.PickStep.{PickStep}
use Rattle.event_core.specs.declared.step.PickStep.TheVariants as step
use Rattle.event_core.specs.Threads.{ThreadAt}
use Rattle.event_core.specs.World.{WorldAt, step_of_pick, world_after}
use Rattle.event_core.specs.Run.{world_run, IsRun, entries}
use Rattle.wasm_types.specs.declared.sizes.TheConstants.{MOST_STEPS}

-- an operation that a thread made, and what it answered
pub record Call (Op Reply : Type 0) : Type 0 where
  pub thread : ℕ
  pub op : Op
  pub reply : Reply

-- thread t's calls
abbrev pub part : {Op Reply : Type 0} → ℕ → List (Call Op Reply) → List (Call Op Reply)
part t [] = []
part t (c ∷ cs) = cond (c.thread == t) (c ∷ part t cs) (part t cs)

module _ {Op Reply Value Fixed : Type 0} (space : Space Op Reply Value Fixed) where
  -- each operation is ready, and each reply is the one that it has at that point
  abbrev pub IsLegalHistory : Memory Value Fixed → List (Call Op Reply) → Type 0
  IsLegalHistory m [] = Unit {0}
  IsLegalHistory m (c ∷ cs) = (is_ready space m.fixed m.values c.op ≡ true) × (c.reply ≡ reply_of space m.fixed m.values c.op) × IsLegalHistory (memory_after space m c.op) cs

  -- what a history leads to
  abbrev pub memory_after_calls : Memory Value Fixed → List (Call Op Reply) → Memory Value Fixed
  memory_after_calls m [] = m
  memory_after_calls m (c ∷ cs) = memory_after_calls (memory_after space m c.op) cs

  -- the entries of thread t in a history
  abbrev pub entries_of_calls : Memory Value Fixed → List (Call Op Reply) → ℕ → List Entry
  entries_of_calls m [] t = []
  entries_of_calls m (c ∷ cs) t = cond (c.thread == t) (entry_of space m c.op ∷ []) [] ++ entries_of_calls (memory_after space m c.op) cs t

  -- the call that a step of thread t makes
  abbrev pub calls_of_step : Memory Value Fixed → ℕ → PickStep Op → List (Call Op Reply)
  calls_of_step m t (step.Refused f) = []
  calls_of_step m t step.Local = []
  calls_of_step m t (step.Event op) = record { thread = t; op = op; reply = reply_of space m.fixed m.values op } ∷ []

-- one step of a thread as it sees it: a local one, or a call by an input
pub data OwnStep (Op Reply : Type 0) : Type 0 where
  OwnLocal : OwnStep Op Reply
  OwnCall : (input : Input) (op : Op) (reply : Reply) → OwnStep Op Reply

-- the calls among the steps of thread t
abbrev pub calls_in : {Op Reply : Type 0} → ℕ → List (OwnStep Op Reply) → List (Call Op Reply)
calls_in t [] = []
calls_in t (OwnLocal ∷ ds) = calls_in t ds
calls_in t (OwnCall input op reply ∷ ds) = record { thread = t; op = op; reply = reply } ∷ calls_in t ds

-- the operation that an input makes of what a thread does next
abbrev pub op_at : {Op : Type 0} → Next Op → Input → Option Op
op_at next.Local input = None
op_at (next.Ask op) Go = Some op
op_at (next.Ask op) TimeOut = None
op_at (next.Asleep resume out) Go = Some resume
op_at (next.Asleep resume out) TimeOut = out
op_at (next.Halted outcome) input = None

module _ {State Op Reply Fixed : Type 0} (code : Code State Op Reply Fixed) where
  -- these steps lead a thread from state s to state u
  abbrev pub Leads : State → List (OwnStep Op Reply) → State → Type 0
  Leads s [] u = s ≡ u
  Leads s (OwnLocal ∷ ds) u = (code.next s ≡ next.Local) × (code.steps s < MOST_STEPS) × Leads (code.local s) ds u
  Leads s (OwnCall input op reply ∷ ds) u = (op_at (code.next s) input ≡ Some op) × (code.steps s < MOST_STEPS) × Leads (code.take s reply) ds u

-- the fact, where the input is a time-out
abbrev pub IfTimeOut : Input → Type 0 → Type 0
IfTimeOut Go P = Unit {0}
IfTimeOut TimeOut P = P

module _ {State Op Reply Fixed : Type 0} (code : Code State Op Reply Fixed) (may : State → Bool) where
  -- each time-out among these steps is of a state in which the thread may time out
  abbrev pub TimesOut : State → List (OwnStep Op Reply) → Type 0
  TimesOut s [] = Unit {0}
  TimesOut s (OwnLocal ∷ ds) = TimesOut (code.local s) ds
  TimesOut s (OwnCall input op reply ∷ ds) = IfTimeOut input (may s ≡ true) × TimesOut (code.take s reply) ds

module _ {State Op Reply Value Fixed : Type 0} (space : Space Op Reply Value Fixed) (code : Code State Op Reply Fixed) where
  -- the calls of a run, in its order
  abbrev pub calls_of_run : WorldAt State Value Fixed → List Pick → List (Call Op Reply)
  calls_of_run w [] = []
  calls_of_run w (p ∷ ps) = calls_of_step space w.memory p.thread (step_of_pick space code w p) ++ calls_of_run (world_after space code w p) ps

-- may tells in which states a thread may time out
module _ {State Op Reply Value Fixed : Type 0} (space : Space Op Reply Value Fixed) (code : Code State Op Reply Fixed) (may : ℕ → State → Bool) where
  -- each time-out in a run is of a thread that may time out there
  abbrev pub RunTimesOut : WorldAt State Value Fixed → List Pick → Type 0
  RunTimesOut w [] = Unit {0}
  RunTimesOut w (p ∷ ps) = ((thread : ThreadAt State) → slice_get w.threads p.thread ≡ Some thread → IfTimeOut p.input (may p.thread thread.state ≡ true)) × RunTimesOut (world_after space code w p) ps

  -- a legal history from a world, with each thread's own steps, of which its calls are its part of the history
  pub record IsExecution (w : WorldAt State Value Fixed) (calls : List (Call Op Reply)) (own : ℕ → List (OwnStep Op Reply)) (ends : ℕ → State) : Type 0 where
    pub legal : IsLegalHistory space w.memory calls
    pub leads : (t : ℕ) (thread : ThreadAt State) → slice_get w.threads t ≡ Some thread → Leads code thread.state (own t) (ends t)
    pub times : (t : ℕ) (thread : ThreadAt State) → slice_get w.threads t ≡ Some thread → TimesOut code (may t) thread.state (own t)
    pub parts : (t : ℕ) → t < length w.threads → calls_in t (own t) ≡ part t calls
    pub no_others : (t : ℕ) → length w.threads ≤ t → part t calls ≡ []

  -- picks that are the run of an execution: its events are the calls, in their order, and threads time out only where
  -- they may
  pub record IsRunOf (w : WorldAt State Value Fixed) (calls : List (Call Op Reply)) (ends : ℕ → State) : Type 0 where
    pub picks : List Pick
    pub run : IsRun space code w picks
    pub times : RunTimesOut w picks
    pub order : calls_of_run space code w picks ≡ calls
    pub entries : (t : ℕ) → entries space code w picks t ≡ entries_of_calls space w.memory calls t
    pub memory : (world_run space code w picks).memory ≡ memory_after_calls space w.memory calls
    pub states : (t : ℕ) (thread : ThreadAt State) → slice_get (world_run space code w picks).threads t ≡ Some thread → thread.state ≡ ends t
    pub places : (t : ℕ) (before after : ThreadAt State) → slice_get w.threads t ≡ Some before → slice_get (world_run space code w picks).threads t ≡ Some after → after.places ≡ before.places + length (part t calls)

module _ {State Op Reply Value Fixed : Type 0} (space : Space Op Reply Value Fixed) (code : Code State Op Reply Fixed) where
  -- a legal history, with each thread's own steps, is a run
  abbrev pub HistoriesAreRuns : Type 0
  HistoriesAreRuns = (may : ℕ → State → Bool) (w : WorldAt State Value Fixed) (calls : List (Call Op Reply)) (own : ℕ → List (OwnStep Op Reply)) (ends : ℕ → State) → IsExecution space code may w calls own ends → IsRunOf space code may w calls ends
