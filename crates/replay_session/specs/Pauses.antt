-- Where turns of threads 0, 1, .. in rounds pause that are to go on up to a break or a test.
use Rattle.std.specs.Prelude.{◌≡◌, ℕ, ◌<◌, List, [], length, Option, None}
use Rattle.rw_objects.specs.Space.{Space}
use Rattle.rw_objects.specs.Code.{Code}
use Rattle.event_core.specs.declared.pick.Pick.{Pick}
use Rattle.event_core.specs.Run.{IsRun}
use Rattle.event_core.specs.World.{WorldAt}
use Rattle.replay_laws.specs.Log.{Log, IsBelowLog, IsCompleteLog}
use Rattle.replay_laws.specs.RunLog.{run_log}
use Rattle.replay_laws.specs.Gates.{IsFinished}
use Rattle.replay_laws.specs.Ordered.{thread_of_turn, ordered_world}
use Rattle.replay_laws.specs.Turns.{turn_of, world_after_turn}
use Rattle.replay_gate.specs.declared.answers.ReplayFault.TheVariants as fault
use Rattle.replay_gate.specs.declared.breaks.Break.{Break}
use Rattle.replay_gate.specs.declared.breaks.Stopped.{Stopped}
use Rattle.replay_gate.specs.declared.breaks.Stopped.TheVariants as stopped
use Rattle.replay_gate.specs.Stops.{TurnStopsAt, IsBehind, RunsOut, StopsAt}
use Rattle.replay_session.specs.declared.paused.Met.TheVariants as met
use Rattle.replay_session.specs.declared.paused.Paused.{Paused}
use Rattle.replay_session.specs.declared.paused.Paused.TheVariants as paused
use Rattle.replay_session.specs.Meets.{Untested, TestHits}

-- why a run pauses that stops so at breaks
abbrev pub paused_of : Stopped → Paused
paused_of (stopped.Break index) = paused.Met (met.Break index)
paused_of stopped.Finished = paused.Finished
paused_of stopped.Stuck = paused.Stuck
paused_of (stopped.Fault f) = paused.Fault f

-- no fault but want of memory
abbrev pub PausesWell : Paused → Type 0
PausesWell (paused.Met m) = Unit {0}
PausesWell paused.Finished = Unit {0}
PausesWell paused.Stuck = Unit {0}
PausesWell (paused.Fault f) = f ≡ fault.NoMemory

-- and threads go on until all are done
abbrev pub PausesFreely : Paused → Type 0
PausesFreely (paused.Met m) = Unit {0}
PausesFreely paused.Finished = Unit {0}
PausesFreely paused.Stuck = ⊥
PausesFreely (paused.Fault f) = f ≡ fault.NoMemory

module _ {State Op Reply Value Fixed : Type 0} (space : Space Op Reply Value Fixed) (code : Code State Op Reply Fixed) (log : Log) where
  -- on a log below that of a run no thread diverges
  abbrev pub PausesRight : WorldAt State Value Fixed → Paused → Type 0
  PausesRight opened p = (picks : List Pick) → IsRun space code opened picks → IsBelowLog log (run_log space code opened picks) → PausesWell p

  -- on the whole log of a run the replay is never stuck
  abbrev pub PausesFree : WorldAt State Value Fixed → Paused → Type 0
  PausesFree opened p = (picks : List Pick) → IsRun space code opened picks → IsBelowLog log (run_log space code opened picks) → IsCompleteLog (length opened.threads) log → PausesFreely p

  module _ (breaks : List Break) (holds : WorldAt State Value Fixed → ℕ → Option ℕ) where
    -- a turn of thread t, from world w on, pauses the rounds so, at world v: as it stops them at breaks, or by the test
    abbrev pub TurnPausesAt : (w : WorldAt State Value Fixed) (t : ℕ) (v : WorldAt State Value Fixed) → Paused → Type 0
    TurnPausesAt w t v (paused.Met (met.Break index)) = TurnStopsAt space code log w t breaks v (stopped.Break index)
    TurnPausesAt w t v (paused.Met (met.Test index)) = TestHits space code log breaks holds w t index × (v ≡ world_after_turn space code w t (turn_of space code log w t))
    TurnPausesAt w t v paused.Finished = ⊥
    TurnPausesAt w t v paused.Stuck = ⊥
    TurnPausesAt w t v (paused.Fault f) = TurnStopsAt space code log w t breaks v (stopped.Fault f)

    module _ (start : WorldAt State Value Fixed) where
      -- the test holds behind none of the first k turns
      abbrev pub NoneTested : ℕ → Type 0
      NoneTested k = (i : ℕ) → i < k → Untested space code log holds (ordered_world space code log start [] i) (thread_of_turn [] (length start.threads) i)

      -- the next turn pauses the rounds so, at world v
      pub record PausesInTurn (v : WorldAt State Value Fixed) (p : Paused) : Type 0 where
        pub turns : ℕ
        pub world : WorldAt State Value Fixed
        pub behind : IsBehind space code log start [] breaks turns world
        pub untested : NoneTested turns
        pub pauses : TurnPausesAt world (thread_of_turn [] (length start.threads) turns) v p

      -- no thread has a step any more, and the test held behind no turn
      pub record RunsOutUntested (v : WorldAt State Value Fixed) : Type 0 where
        pub out : RunsOut space code log start [] breaks v
        pub untested : NoneTested out.turns

      -- the rounds pause so, at world v: where they stop at breaks, or at the first turn behind which the test holds
      abbrev pub PausesAt : WorldAt State Value Fixed → Paused → Type 0
      PausesAt v (paused.Met m) = PausesInTurn v (paused.Met m)
      PausesAt v paused.Finished = RunsOutUntested v × IsFinished code log v
      PausesAt v paused.Stuck = RunsOutUntested v × (IsFinished code log v → ⊥)
      PausesAt v (paused.Fault f) = PausesInTurn v (paused.Fault f)

module _ {State Op Reply Value Fixed : Type 0} (space : Space Op Reply Value Fixed) (code : Code State Op Reply Fixed) where
  -- where the test holds in no world the rounds pause just where they stop at breaks
  abbrev pub PausesAsStops : Type 0
  PausesAsStops = (log : Log) (breaks : List Break) (holds : WorldAt State Value Fixed → ℕ → Option ℕ) → ((w : WorldAt State Value Fixed) (t : ℕ) → holds w t ≡ None) → (start v : WorldAt State Value Fixed) (p : Paused)
      → (PausesAt space code log breaks holds start v p → (s : Stopped) × (p ≡ paused_of s) × StopsAt space code log start [] breaks v s)
      × ((s : Stopped) → p ≡ paused_of s → StopsAt space code log start [] breaks v s → PausesAt space code log breaks holds start v p)
