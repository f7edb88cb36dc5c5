-- Runs of one thread of a world, with their log.
use Rattle.std.specs.Prelude.{◌≡◌, ◌+◌, ℕ, ◌≤◌, List, [], ◌∷◌, Option, Some, option_and_then, slice_get}
use Rattle.wasm_types.specs.declared.sizes.TheConstants.{MOST_STEPS}
use Rattle.rw_objects.specs.Alone.{AloneAt, alone_with, Goes}
use Rattle.rw_objects.specs.Code.{Code}
use Rattle.rw_objects.specs.Memory.{Memory}
use Rattle.rw_objects.specs.Space.{Space}
use Rattle.rw_objects.specs.declared.entry.Entry.{Entry}
use Rattle.event_core.specs.LocalRun.{goes}
use Rattle.event_core.specs.Run.{entries, world_run, IsRun}
use Rattle.event_core.specs.Threads.{ThreadAt, change_at}
use Rattle.event_core.specs.World.{WorldAt}

-- entries that are put one behind the other, where the log takes each
abbrev pub put_all : {Seen : Type 0} → (Seen → Entry → Option Seen) → Seen → List Entry → Option Seen
put_all add seen [] = Some seen
put_all add seen (e ∷ es) = option_and_then (λ next. put_all add next es) (add seen e)

-- a thread in this state that made so many events more
abbrev pub thread_behind : {State : Type 0} → State → ℕ → ThreadAt State → ThreadAt State
thread_behind s events t = record { state = s; places = t.places + events }

module _ {State Op Reply Value Fixed Seen : Type 0} (space : Space Op Reply Value Fixed) (code : Code State Op Reply Fixed) (add : Seen → Entry → Option Seen) where
  -- the thread at a place of the list made so many steps over the memory, with this log
  pub record RanAt (at n : ℕ) (ts us : List (ThreadAt State)) (before after : Memory Value Fixed) (log new : Seen) : Type 0 where
    pub state : State
    pub events : ℕ
    pub goes : (t : ThreadAt State) → slice_get ts at ≡ Some t → Goes space code add n (alone_with t.state before log 0) (alone_with state after new events)
    pub leads : us ≡ change_at ts at (thread_behind state events)

  -- n picks by which thread t goes on are a run from one world to another, whose entries were put into the log
  pub record IsThreadRun (t n : ℕ) (w v : WorldAt State Value Fixed) (before after : Seen) : Type 0 where
    pub run : IsRun space code w (goes t n)
    pub leads : v ≡ world_run space code w (goes t n)
    pub log : put_all add before (entries space code w (goes t n) t) ≡ Some after

  -- the steps that thread t of any world makes over its memory, as if there were no other thread, where they are no
  -- more than a thread may make, are such a run, behind which the other threads stand as before
  abbrev pub ThreadsRunAlone : Type 0
  ThreadsRunAlone =
      (t n : ℕ) (w : WorldAt State Value Fixed) (x : ThreadAt State) (log : Seen) (b : AloneAt State Value Fixed Seen) → slice_get w.threads t ≡ Some x → Goes space code add n (alone_with x.state w.memory log x.places) b
      → code.steps b.thread ≤ MOST_STEPS → IsThreadRun t n w (record { threads = change_at w.threads t (λ y. record { state = b.thread; places = b.events }); memory = b.memory }) log b.log
