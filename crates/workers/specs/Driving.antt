-- What a worker does: it drives one thread, and enters the thread's calls by a seat.
use Rattle.std.specs.Prelude.{◌≡◌, ℕ, ◌+◌, Bool, true, false, List, ◌∷◌, [], ◌++◌, length, map, Result, Ok, Err}
use Rattle.rw_objects.specs.Code.{Code}
use Rattle.rw_objects.specs.declared.entry.Entry.{Entry}
use Rattle.event_core.specs.declared.thread.Thread.{Thread}
use Rattle.event_core.specs.Threads.{ThreadAt, thread_of}
use Rattle.replay_laws.specs.History.{OwnStep, calls_in, Leads, TimesOut}
use Rattle.replay_laws.specs.History as history
use Rattle.shared_parts.specs.declared.call.Call.{Call}
use Rattle.shared_parts.specs.Calls.{Part, call}

-- what a call asked and was answered, without its entry
abbrev pub asked : {Op Reply : Type 0} → Call Op Reply → history.Call Op Reply
asked c = record { thread = c.thread; op = c.op; reply = c.reply }

abbrev pub all_asked : {Op Reply : Type 0} → List (Call Op Reply) → List (history.Call Op Reply)
all_asked cs = map asked cs

-- whether a try was entered
abbrev pub went_on : {E : Type 0} → Result Bool E → Bool
went_on (Ok made) = made
went_on (Err e) = false

-- a thread, with the calls that its seat entered
pub record Driven (State Op Reply : Type 0) : Type 0 where
  pub thread : ThreadAt State
  pub seat : Part Op Reply

abbrev pub driven : {M State Op Reply : Type 0} → (M → State) → Thread M → Part Op Reply → Driven State Op Reply
driven state thread seat = record { thread = thread_of state thread; seat = seat }

module _ {State Op Reply Fixed : Type 0} (code : Code State Op Reply Fixed) where
  -- own steps lead thread t from one state to another, and put their calls behind those that it made before; may tells
  -- in which states it may time out
  pub record Went (may : State → Bool) (t : ℕ) (s : State) (before : List (Call Op Reply)) (u : State) (after : List (Call Op Reply)) : Type 0 where
    pub own : List (OwnStep Op Reply)
    pub leads : Leads code s own u
    pub calls : all_asked after ≡ all_asked before ++ calls_in t own
    pub times : TimesOut code may s own

  -- a call was entered, and the thread took its reply
  pub record IsEntered (op : Op) (a b : Driven State Op Reply) : Type 0 where
    pub reply : Reply
    pub entry : Entry
    pub state : b.thread.state ≡ code.take a.thread.state reply
    pub places : b.thread.places ≡ a.thread.places + 1
    pub thread : b.seat.thread ≡ a.seat.thread
    pub calls : b.seat.calls ≡ a.seat.calls ++ call a.seat.thread op reply entry ∷ []

  -- a thread was driven on, by steps of which its seat has the calls
  pub record Advances (may : ℕ → State → Bool) (a b : Driven State Op Reply) : Type 0 where
    pub went : Went (may a.seat.thread) a.seat.thread a.thread.state a.seat.calls b.thread.state b.seat.calls
    pub thread : b.seat.thread ≡ a.seat.thread
    pub places : b.thread.places + length a.seat.calls ≡ a.thread.places + length b.seat.calls
