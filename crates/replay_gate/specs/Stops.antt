-- Where a replay by an order stops that is to stop at breaks.
use Rattle.std.specs.Prelude.{◌≡◌, ◌⊎◌, ℕ, ◌<◌, ◌≤◌, Bool, true, false, List, length, Some, slice_get}
use Rattle.rw_objects.specs.Space.{Space}
use Rattle.rw_objects.specs.Code.{Code}
use Rattle.event_core.specs.declared.pick.Pick.{Pick}
use Rattle.event_core.specs.Run.{IsRun}
use Rattle.event_core.specs.Threads.{ThreadAt}
use Rattle.event_core.specs.World.{WorldAt}
use Rattle.replay_laws.specs.declared.turn.Turn.{Turn}
use Rattle.replay_laws.specs.declared.turn.Turn.TheVariants as turn
use Rattle.replay_laws.specs.declared.turn.Refusal.TheVariants.{Missing, Clash, Shut, Diverged}
use Rattle.replay_laws.specs.Log.{Log, IsBelowLog, IsCompleteLog}
use Rattle.replay_laws.specs.RunLog.{run_log}
use Rattle.replay_laws.specs.Gates.{IsFinished}
use Rattle.replay_laws.specs.Turns.{turn_of, world_after_turn}
use Rattle.replay_laws.specs.Ordered.{thread_of_turn, ordered_world}
use Rattle.replay_gate.specs.declared.answers.ReplayFault.{ReplayFault}
use Rattle.replay_gate.specs.declared.answers.ReplayFault.TheVariants as fault
use Rattle.replay_gate.specs.Answers.{makes_step}
use Rattle.replay_gate.specs.declared.answers.Turned.{Turned}
use Rattle.replay_gate.specs.declared.answers.Turned.TheVariants as turned
use Rattle.replay_gate.specs.declared.breaks.Break.{Break}
use Rattle.replay_gate.specs.declared.breaks.Stopped.{Stopped}
use Rattle.replay_gate.specs.declared.breaks.Stopped.TheVariants as stopped
use Rattle.replay_gate.specs.declared.running.Taken.{Taken}
use Rattle.replay_gate.specs.declared.running.Taken.TheVariants as taken
use Rattle.replay_gate.specs.Breaks.{NoneHits, FirstHits}

-- a turn after which the replay goes on: any but one of a thread that can't do what the log says of it
abbrev pub GoesOn : Turn → Type 0
GoesOn turn.Done = Unit {0}
GoesOn turn.Local = Unit {0}
GoesOn (turn.Event input) = Unit {0}
GoesOn (turn.Refused Shut) = Unit {0}
GoesOn (turn.Refused Missing) = Unit {0}
GoesOn (turn.Refused Clash) = Unit {0}
GoesOn (turn.Refused Diverged) = ⊥

-- a fault of a turn that stops no run: what the log lacks, or claims twice, and a shut gate
abbrev pub is_passed_over : ReplayFault → Bool
is_passed_over (fault.Clash thread place) = true
is_passed_over (fault.Missing thread place) = true
is_passed_over fault.Shut = true
is_passed_over (fault.Diverged thread place) = false
is_passed_over fault.NoMemory = false
is_passed_over fault.Stuck = false

abbrev pub is_done : Turned → Bool
is_done turned.Local = false
is_done turned.Event = false
is_done turned.Done = true

-- what a turn did that stops no run
abbrev pub taken_of : Turn → Taken
taken_of turn.Done = taken.Done
taken_of turn.Local = taken.Step
taken_of (turn.Event input) = taken.Step
taken_of (turn.Refused r) = taken.Held

abbrev pub is_step : Taken → Bool
is_step taken.Done = false
is_step taken.Held = false
is_step taken.Step = true

abbrev pub is_held : Taken → Bool
is_held taken.Done = false
is_held taken.Held = true
is_held taken.Step = false

-- no fault but want of memory
abbrev pub IsNoDivergence : Stopped → Type 0
IsNoDivergence (stopped.Break index) = Unit {0}
IsNoDivergence stopped.Finished = Unit {0}
IsNoDivergence stopped.Stuck = Unit {0}
IsNoDivergence (stopped.Fault f) = f ≡ fault.NoMemory

-- and threads go on until all are done
abbrev pub IsFreeStop : Stopped → Type 0
IsFreeStop (stopped.Break index) = Unit {0}
IsFreeStop stopped.Finished = Unit {0}
IsFreeStop stopped.Stuck = ⊥
IsFreeStop (stopped.Fault f) = f ≡ fault.NoMemory

module _ {State Op Reply Value Fixed : Type 0} (space : Space Op Reply Value Fixed) (code : Code State Op Reply Fixed) where
  -- on a log below that of a run no thread diverges
  abbrev pub StopsRight : Log → WorldAt State Value Fixed → Stopped → Type 0
  StopsRight log opened s = (picks : List Pick) → IsRun space code opened picks → IsBelowLog log (run_log space code opened picks) → IsNoDivergence s

  -- on the whole log of a run the replay is never stuck
  abbrev pub StopsFree : Log → WorldAt State Value Fixed → Stopped → Type 0
  StopsFree log opened s = (picks : List Pick) → IsRun space code opened picks → IsBelowLog log (run_log space code opened picks) → IsCompleteLog (length opened.threads) log → IsFreeStop s

  -- the thread of a turn can't do what the log says of it; the fault names it and its next place
  pub record Diverges (log : Log) (w : WorldAt State Value Fixed) (t : ℕ) (f : ReplayFault) : Type 0 where
    pub refused : turn_of space code log w t ≡ turn.Refused Diverged
    pub thread : ThreadAt State
    pub exists : slice_get w.threads t ≡ Some thread
    pub is : f ≡ fault.Diverged t thread.places

  -- a turn of thread t, from world w on, stops the replay so, at world v
  abbrev pub TurnStopsAt : Log → WorldAt State Value Fixed → ℕ → List Break → WorldAt State Value Fixed → Stopped → Type 0
  TurnStopsAt log w t breaks v (stopped.Break index) = FirstHits space code log w t breaks index × (v ≡ world_after_turn space code w t (turn_of space code log w t))
  TurnStopsAt log w t breaks v stopped.Finished = ⊥
  TurnStopsAt log w t breaks v stopped.Stuck = ⊥
  TurnStopsAt log w t breaks v (stopped.Fault f) = ((f ≡ fault.NoMemory) ⊎ Diverges log w t f) × (v ≡ w)

  -- a turn of thread t, from world w on, does this, stops no replay, and leads to world v
  pub record TurnTakes (log : Log) (w : WorldAt State Value Fixed) (t : ℕ) (breaks : List Break) (v : WorldAt State Value Fixed) (x : Taken) : Type 0 where
    pub taken : x ≡ taken_of (turn_of space code log w t)
    pub on : GoesOn (turn_of space code log w t)
    pub none : NoneHits space code log w t breaks
    pub world : v ≡ world_after_turn space code w t (turn_of space code log w t)

  module _ (log : Log) (start : WorldAt State Value Fixed) (order : List ℕ) (breaks : List Break) where
    -- behind the first k turns: each goes on, and behind none a break holds
    pub record IsBehind (k : ℕ) (w : WorldAt State Value Fixed) : Type 0 where
      pub at : w ≡ ordered_world space code log start order k
      pub goes_on : (i : ℕ) → i < k → GoesOn (turn_of space code log (ordered_world space code log start order i) (thread_of_turn order (length start.threads) i))
      pub no_break : (i : ℕ) → i < k → NoneHits space code log (ordered_world space code log start order i) (thread_of_turn order (length start.threads) i) breaks

    -- the next turn stops the replay so, at world v
    pub record StopsInTurn (v : WorldAt State Value Fixed) (s : Stopped) : Type 0 where
      pub turns : ℕ
      pub world : WorldAt State Value Fixed
      pub behind : IsBehind turns world
      pub stops : TurnStopsAt log world (thread_of_turn order (length start.threads) turns) breaks v s

    -- behind the order's turns no thread has a step, and each turn goes on
    pub record RunsOut (v : WorldAt State Value Fixed) : Type 0 where
      pub turns : ℕ
      pub all_of_order : length order ≤ turns
      pub behind : IsBehind turns v
      pub still : (t : ℕ) → t < length start.threads → makes_step (turn_of space code log v t) ≡ false
      pub shut : (t : ℕ) → t < length start.threads → GoesOn (turn_of space code log v t)

    -- the replay by the order stops so, at world v: at the first turn behind which a break holds, at the first that
    -- can't be made for a fault, or where no turn makes a step any more
    abbrev pub StopsAt : WorldAt State Value Fixed → Stopped → Type 0
    StopsAt v (stopped.Break index) = StopsInTurn v (stopped.Break index)
    StopsAt v stopped.Finished = RunsOut v × IsFinished code log v
    StopsAt v stopped.Stuck = RunsOut v × (IsFinished code log v → ⊥)
    StopsAt v (stopped.Fault f) = StopsInTurn v (stopped.Fault f)
