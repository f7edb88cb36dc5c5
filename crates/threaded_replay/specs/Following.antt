-- What a thread does that follows a log.
use Rattle.std.specs.Prelude.{◌≡◌, ℕ, ◌+◌, ◌≤◌, List, ◌∷◌, [], ◌++◌, length, Option, Some, None, slice_get}
use Rattle.rw_objects.specs.Code.{Code}
use Rattle.rw_objects.specs.declared.entry.Entry.{Entry}
use Rattle.rw_objects.specs.declared.entry.Kind.{Kind}
use Rattle.rw_objects.specs.declared.next.Next.{Next}
use Rattle.replica.specs.Flat.TheVariants.{Known}
use Rattle.replica.specs.End.{End}
use Rattle.replay_laws.specs.History.{op_at}
use Rattle.replay_laws.specs.Log.{Log}
use Rattle.replay_laws.specs.Turns.{input_for}
use Rattle.shared_core.specs.Call.{Call}
use Rattle.shared_core.specs.Calls.{call, entries_in}
use Rattle.workers.specs.Driving.{Driven}

-- an operation that comes next for a thread that is to log this kind
abbrev pub IsOpOf : {Op : Type 0} → Next Op → Kind → Option Op → Type 0
IsOpOf next kind None = Unit {0}
IsOpOf next kind (Some op) = op_at next (input_for kind) ≡ Some op

module _ {State Op Reply Fixed : Type 0} (code : Code State Op Reply Fixed) where
  -- a call with this entry was entered, and the thread took its reply
  pub record IsEnteredAt (op : Op) (item : Entry) (a b : Driven State Op Reply) : Type 0 where
    pub reply : Reply
    pub state : b.thread.state ≡ code.take a.thread.state reply
    pub places : b.thread.places ≡ a.thread.places + 1
    pub thread : b.seat.thread ≡ a.seat.thread
    pub calls : b.seat.calls ≡ a.seat.calls ++ call a.seat.thread op reply item ∷ []

  -- the entries of thread t's calls are those of the log, no further than the thread's logged end
  pub record Follows (log : Log) (end : End) (t : ℕ) (s : State) (calls : List (Call Op Reply)) : Type 0 where
    pub is_known : log.end t ≡ Some (Known end)
    pub entries : (place : ℕ) (e : Entry) → slice_get (entries_in calls) place ≡ Some e → log.entry t place ≡ Some (Known e)
    pub places : length calls ≤ end.places
    pub steps : code.steps s ≤ end.steps

  -- a driven thread, whose places are its calls, follows the log
  pub record IsFollowing (log : Log) (end : End) (a : Driven State Op Reply) : Type 0 where
    pub follows : Follows log end a.seat.thread a.thread.state a.seat.calls
    pub place : a.thread.places ≡ length a.seat.calls
