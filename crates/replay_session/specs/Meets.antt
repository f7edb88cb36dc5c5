-- What holds behind a step: a break, or else a test of the world behind it.
use Rattle.std.specs.Prelude.{◌≡◌, ℕ, true, List, Option, Some, None}
use Rattle.rw_objects.specs.Space.{Space}
use Rattle.rw_objects.specs.Code.{Code}
use Rattle.event_core.specs.World.{WorldAt}
use Rattle.replay_laws.specs.Log.{Log}
use Rattle.replay_laws.specs.Turns.{turn_of, world_after_turn}
use Rattle.replay_gate.specs.Answers.{makes_step}
use Rattle.replay_gate.specs.declared.breaks.Break.{Break}
use Rattle.replay_gate.specs.Breaks.{NoneHits, FirstHits}
use Rattle.replay_session.specs.declared.paused.Met.{Met}
use Rattle.replay_session.specs.declared.paused.Met.TheVariants as met

module _ {State Op Reply Value Fixed : Type 0} (space : Space Op Reply Value Fixed) (code : Code State Op Reply Fixed) (log : Log) where
  -- where the turn of thread t from world w on makes a step, the test does not hold behind it
  abbrev pub Untested : (holds : WorldAt State Value Fixed → ℕ → Option ℕ) → WorldAt State Value Fixed → ℕ → Type 0
  Untested holds w t = makes_step (turn_of space code log w t) ≡ true → holds (world_after_turn space code w t (turn_of space code log w t)) t ≡ None

  module _ (breaks : List Break) (holds : WorldAt State Value Fixed → ℕ → Option ℕ) where
    -- behind that turn neither a break of the list holds nor the test
    abbrev pub MeetsNone : WorldAt State Value Fixed → ℕ → Type 0
    MeetsNone w t = NoneHits space code log w t breaks × Untested holds w t

    -- that turn makes a step, behind which no break of the list holds, and this part of the test does
    pub record TestHits (w : WorldAt State Value Fixed) (t index : ℕ) : Type 0 where
      pub step : makes_step (turn_of space code log w t) ≡ true
      pub none : NoneHits space code log w t breaks
      pub tested : holds (world_after_turn space code w t (turn_of space code log w t)) t ≡ Some index

    -- that turn makes a step, behind which this holds
    abbrev pub Meets : WorldAt State Value Fixed → ℕ → Met → Type 0
    Meets w t (met.Break index) = FirstHits space code log w t breaks index
    Meets w t (met.Test index) = TestHits w t index
