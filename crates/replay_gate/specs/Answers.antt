-- Faults of turns, and answers of replays.
use Rattle.std.specs.Prelude.{◌≡◌, ℕ, ◌⊎◌, Bool, true, false, List, Some, slice_get}
use Rattle.rw_objects.specs.Space.{Space}
use Rattle.rw_objects.specs.Code.{Code}
use Rattle.event_core.specs.Threads.{ThreadAt}
use Rattle.event_core.specs.declared.pick.Pick.{Pick}
use Rattle.event_core.specs.World.{WorldAt}
use Rattle.event_core.specs.End.{RunEnd}
use Rattle.event_core.specs.Run.{IsRun, run_end}
use Rattle.replay_laws.specs.declared.turn.Turn.{Turn}
use Rattle.replay_laws.specs.declared.turn.Turn.TheVariants as turn
use Rattle.replay_laws.specs.declared.turn.Refusal.{Refusal}
use Rattle.replay_laws.specs.declared.turn.Refusal.TheVariants as refusal
use Rattle.replay_laws.specs.Log.{Log, IsBelowLog}
use Rattle.replay_laws.specs.RunLog.{run_log}
use Rattle.replay_laws.specs.Turns.{turn_of}
use Rattle.replay_laws.specs.Laws.{IsVouched}
use Rattle.replay_laws.specs.Finishing.{PassesOn, IsFinishedRun, OrderedStops, OrderedSticks}
use Rattle.replay_gate.specs.declared.answers.ReplayFault.{ReplayFault}
use Rattle.replay_gate.specs.declared.answers.ReplayFault.TheVariants as fault

abbrev pub fault_of : Refusal → ℕ → ℕ → ReplayFault
fault_of refusal.Missing t place = fault.Missing t place
fault_of refusal.Clash t place = fault.Clash t place
fault_of refusal.Shut t place = fault.Shut
fault_of refusal.Diverged t place = fault.Diverged t place

-- whether a turn makes a step
abbrev pub makes_step : Turn → Bool
makes_step turn.Done = false
makes_step turn.Local = true
makes_step (turn.Event input) = true
makes_step (turn.Refused r) = false

-- a fault names the thread, if there is one of that number, and its next place
abbrev pub IsThreadsFault : {State Value Fixed : Type 0} → WorldAt State Value Fixed → ℕ → Refusal → ReplayFault → Type 0
IsThreadsFault {State} w t r f = (thread : ThreadAt State) → slice_get w.threads t ≡ Some thread → f ≡ fault_of r t thread.places

module _ {State Op Reply Value Fixed : Type 0} (space : Space Op Reply Value Fixed) (code : Code State Op Reply Fixed) where
  -- a turn ends a replay with this fault
  pub record TurnStops (log : Log) (w : WorldAt State Value Fixed) (t : ℕ) (f : ReplayFault) : Type 0 where
    pub refusal : Refusal
    pub refused : turn_of space code log w t ≡ turn.Refused refusal
    pub ends : PassesOn (turn.Refused refusal) → ⊥
    pub thread : ThreadAt State
    pub exists : slice_get w.threads t ≡ Some thread
    pub is : f ≡ fault_of refusal t thread.places

  -- the ordered replay of a log answers this fault
  pub record StopsSo (log : Log) (w : WorldAt State Value Fixed) (order : List ℕ) (f : ReplayFault) : Type 0 where
    pub refusal : Refusal
    pub thread : ℕ
    pub place : ℕ
    pub stops : OrderedStops space code log w order refusal thread place
    pub is : f ≡ fault_of refusal thread place

  abbrev pub IsOrderedFault : Log → WorldAt State Value Fixed → List ℕ → ReplayFault → Type 0
  IsOrderedFault log w order f = StopsSo log w order f ⊎ ((f ≡ fault.Stuck) × OrderedSticks space code log w order)

  -- the end of a run whose log is below this one, and is this one where it is complete
  pub record IsVouchedEnd (log : Log) (w : WorldAt State Value Fixed) (end : RunEnd) : Type 0 where
    pub picks : List Pick
    pub vouched : IsVouched space code log w picks
    pub is : end ≡ run_end space code w picks

  -- the end of every run whose log this one is below
  abbrev pub IsEndOfRuns : Log → WorldAt State Value Fixed → RunEnd → Type 0
  IsEndOfRuns log w end = (picks : List Pick) → IsRun space code w picks → IsBelowLog log (run_log space code w picks) → end ≡ run_end space code w picks

  -- where some gated run from the log comes to its ends, only memory is wanting
  abbrev pub IsWantOfMemory : Log → WorldAt State Value Fixed → ReplayFault → Type 0
  IsWantOfMemory log w f = (picks : List Pick) → IsFinishedRun space code log w picks → f ≡ fault.NoMemory
