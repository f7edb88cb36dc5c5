-- What a turn of a replay answers.
use Rattle.std.specs.Prelude.{◌≡◌, ℕ, List, length, Option, Some, None, slice_get}
use Rattle.rw_objects.specs.Space.{Space}
use Rattle.rw_objects.specs.Code.{Code}
use Rattle.event_core.specs.declared.pick.Pick.{Pick}
use Rattle.event_core.specs.Threads.{ThreadAt}
use Rattle.event_core.specs.World.{WorldAt}
use Rattle.event_core.specs.Run.{IsRun}
use Rattle.replay_laws.specs.declared.turn.Turn.{Turn}
use Rattle.replay_laws.specs.declared.turn.Turn.TheVariants as turn
use Rattle.replay_laws.specs.declared.turn.Refusal.{Refusal}
use Rattle.replay_laws.specs.Log.{Log, IsBelowLog, IsCompleteLog}
use Rattle.replay_laws.specs.RunLog.{run_log}
use Rattle.replay_laws.specs.Turns.{turn_of}
use Rattle.replay_gate.specs.declared.answers.ReplayFault.{ReplayFault}
use Rattle.replay_gate.specs.declared.answers.ReplayFault.TheVariants as fault
use Rattle.replay_gate.specs.declared.answers.Turned.{Turned}
use Rattle.replay_gate.specs.declared.answers.Turned.TheVariants as turned
use Rattle.replay_gate.specs.Answers.{fault_of}

-- the answer of a turn that is not refused
abbrev pub answer_of_turn : Turn → Option Turned
answer_of_turn turn.Done = Some turned.Done
answer_of_turn turn.Local = Some turned.Local
answer_of_turn (turn.Event input) = Some turned.Event
answer_of_turn (turn.Refused refusal) = None

-- a shut gate, or want of memory
abbrev pub IsShutOrWanting : ReplayFault → Type 0
IsShutOrWanting fault.Shut = Unit {0}
IsShutOrWanting fault.NoMemory = Unit {0}
IsShutOrWanting (fault.Missing thread place) = ⊥
IsShutOrWanting (fault.Clash thread place) = ⊥
IsShutOrWanting (fault.Diverged thread place) = ⊥
IsShutOrWanting fault.Stuck = ⊥

-- and what is missing from the log
abbrev pub IsOfLessLog : ReplayFault → Type 0
IsOfLessLog (fault.Missing thread place) = Unit {0}
IsOfLessLog fault.Shut = Unit {0}
IsOfLessLog fault.NoMemory = Unit {0}
IsOfLessLog (fault.Clash thread place) = ⊥
IsOfLessLog (fault.Diverged thread place) = ⊥
IsOfLessLog fault.Stuck = ⊥

module _ {State Op Reply Value Fixed : Type 0} (space : Space Op Reply Value Fixed) (code : Code State Op Reply Fixed) where
  -- the turn is refused, and the fault names the thread and its next place
  pub record TurnRefused (log : Log) (w : WorldAt State Value Fixed) (t : ℕ) (f : ReplayFault) : Type 0 where
    pub refusal : Refusal
    pub refused : turn_of space code log w t ≡ turn.Refused refusal
    pub thread : ThreadAt State
    pub exists : slice_get w.threads t ≡ Some thread
    pub is : f ≡ fault_of refusal t thread.places

  -- on a log below that of a run, nothing clashes and no thread diverges
  abbrev pub IsRightRefusal : Log → WorldAt State Value Fixed → ReplayFault → Type 0
  IsRightRefusal log opened f = (picks : List Pick) → IsRun space code opened picks → IsBelowLog log (run_log space code opened picks) → IsOfLessLog f

  -- on the whole log of a run, only a gate is shut
  abbrev pub IsFreeRefusal : Log → WorldAt State Value Fixed → ReplayFault → Type 0
  IsFreeRefusal log opened f = (picks : List Pick) → IsRun space code opened picks → IsBelowLog log (run_log space code opened picks)
      → IsCompleteLog (length opened.threads) log → IsShutOrWanting f
