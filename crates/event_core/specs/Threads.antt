-- Threads as theorems see them: a state, and how many events were made.
use Rattle.std.specs.Prelude.{zero, suc, [], ◌∷◌, ◌≡◌, ℕ, ◌+◌, ◌<◌, List, map, Some, slice_get, sum_by}
use Rattle.rw_objects.specs.Code.{Code, TakesReply}
use Rattle.rw_objects.specs.declared.next.Next.TheVariants.{Local}
use Rattle.wasm_types.specs.declared.sizes.TheConstants.{MOST_STEPS}
use Rattle.event_core.specs.declared.thread.Thread.{Thread}

-- a list with one element changed
abbrev pub change_at : {A : Type 0} → List A → ℕ → (A → A) → List A
change_at [] i f = []
change_at (x ∷ xs) zero f = f x ∷ xs
change_at (x ∷ xs) (suc i) f = x ∷ change_at xs i f

-- a thread's state, and how many events it made
pub record ThreadAt (State : Type 0) : Type 0 where
  pub state : State
  pub places : ℕ

abbrev pub opening_thread : {State : Type 0} → State → ThreadAt State
opening_thread s = record { state = s; places = 0 }

-- what the code's threads are
abbrev pub thread_of : {M State : Type 0} → (M → State) → Thread M → ThreadAt State
thread_of state t = record { state = state t.machine; places = t.places }

abbrev pub threads_of : {M State : Type 0} → (M → State) → List (Thread M) → List (ThreadAt State)
threads_of state threads = map (thread_of state) threads

-- the machine of a thread has room
abbrev pub ThreadHasRoom : {M : Type 0} → (M → Type 0) → List (Thread M) → ℕ → Type 0
ThreadHasRoom {M} has_room threads at = (t : Thread M) → slice_get threads at ≡ Some t → has_room t.machine

-- a thread, if there is one of that number, is so
abbrev pub ThreadIs : {M State : Type 0} → (M → State) → List (Thread M) → ℕ → (ThreadAt State → Type 0) → Type 0
ThreadIs state threads at P = (t : ThreadAt _) → slice_get (threads_of state threads) at ≡ Some t → P t

module _ {State Op Reply Fixed : Type 0} (code : Code State Op Reply Fixed) where
  pub record CanStepLocally (t : ThreadAt State) : Type 0 where
    pub next : code.next t.state ≡ Local
    pub steps : code.steps t.state < MOST_STEPS

  pub record CanTakeReply (t : ThreadAt State) : Type 0 where
    pub next : TakesReply (code.next t.state)
    pub steps : code.steps t.state < MOST_STEPS
    pub places : t.places < MOST_STEPS

  -- the steps of all threads
  abbrev pub all_steps : List (ThreadAt State) → ℕ
  all_steps threads = sum_by (λ t. code.steps t.state) threads

  -- a local step changes the state alone
  abbrev pub thread_after_local : ThreadAt State → ThreadAt State
  thread_after_local t = record { state = code.local t.state; places = t.places }

  -- an event takes its reply and counts
  abbrev pub thread_after_reply : Reply → ThreadAt State → ThreadAt State
  thread_after_reply reply t = record { state = code.take t.state reply; places = t.places + 1 }
