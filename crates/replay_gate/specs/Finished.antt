-- What the turns that are left answer, from a world to which some gated run from the log led.
use Rattle.std.specs.Prelude.{◌≡◌, ◌⊎◌, ℕ, ◌<◌, length, None}
use Rattle.rw_objects.specs.Space.{Space}
use Rattle.rw_objects.specs.Code.{Code}
use Rattle.event_core.specs.World.{WorldAt}
use Rattle.event_core.specs.End.{RunEnd}
use Rattle.replay_laws.specs.Log.{Log}
use Rattle.replay_laws.specs.Gates.{IsFinished}
use Rattle.replay_laws.specs.Turns.{turn_of, input_of_turn}
use Rattle.replay_laws.specs.Finishing.{PassesOn, IsEndOfRun}
use Rattle.replay_gate.specs.declared.answers.ReplayFault.{ReplayFault}
use Rattle.replay_gate.specs.declared.answers.ReplayFault.TheVariants as fault
use Rattle.replay_gate.specs.Leads.{Leads}
use Rattle.replay_gate.specs.Answers.{TurnStops, IsVouchedEnd, IsEndOfRuns, IsWantOfMemory}

module _ {State Op Reply Value Fixed : Type 0} (space : Space Op Reply Value Fixed) (code : Code State Op Reply Fixed) where
  -- every thread is done or its gate is shut, and not all stand at their logged ends
  pub record IsStuck (log : Log) (w : WorldAt State Value Fixed) : Type 0 where
    pub still : (t : ℕ) → t < length w.threads → input_of_turn (turn_of space code log w t) ≡ None
    pub shut : (t : ℕ) → t < length w.threads → PassesOn (turn_of space code log w t)
    pub unfinished : IsFinished code log w → ⊥

  -- some gated run from the log leads to a world at which the turn of a thread is refused so, and not by a shut gate,
  -- or which is stuck
  pub record IsGatedFault (log : Log) (opened : WorldAt State Value Fixed) (f : ReplayFault) : Type 0 where
    pub world : WorldAt State Value Fixed
    pub leads : Leads space code log opened world
    pub fault : ((t : ℕ) × TurnStops space code log world t f) ⊎ ((f ≡ fault.Stuck) × IsStuck log world)

  -- the end of a finished gated run from the log: that of a run whose log is below this one, and of every run whose log
  -- this one is below
  pub record IsReplayEnd (log : Log) (opened : WorldAt State Value Fixed) (end : RunEnd) : Type 0 where
    pub finished : IsEndOfRun space code log opened end
    pub vouches : IsVouchedEnd space code log opened end
    pub recorded : IsEndOfRuns space code log opened end

  -- want of memory, or a fault of some gated run from the log, which comes only where none is finished
  pub record IsReplayFault (log : Log) (opened : WorldAt State Value Fixed) (f : ReplayFault) : Type 0 where
    pub is : (f ≡ fault.NoMemory) ⊎ IsGatedFault log opened f
    pub wants : IsWantOfMemory space code log opened f
