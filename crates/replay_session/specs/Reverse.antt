-- The steps of a way, and the last of them behind which a break or a test holds.
use Rattle.std.specs.Prelude.{◌≡◌, ◌⊎◌, ℕ, ◌+◌, ◌-◌, ◌<◌, ◌≤◌, true, false, List, [], ◌∷◌, length, Option, Some, None}
use Rattle.rw_objects.specs.Space.{Space}
use Rattle.rw_objects.specs.Code.{Code}
use Rattle.event_core.specs.Threads.{all_steps}
use Rattle.event_core.specs.World.{WorldAt}
use Rattle.replay_laws.specs.Log.{Log}
use Rattle.replay_laws.specs.Ordered.{thread_of_turn, ordered_world}
use Rattle.replay_laws.specs.Turns.{turn_of, world_after_turn}
use Rattle.replay_gate.specs.Answers.{makes_step}
use Rattle.replay_gate.specs.declared.breaks.Break.{Break}
use Rattle.replay_session.specs.declared.legs.Leg.{Leg}
use Rattle.replay_session.specs.declared.legs.Leg.TheVariants as leg
use Rattle.replay_session.specs.declared.paused.Met.{Met}
use Rattle.replay_session.specs.declared.reverse.Hit.{Hit}
use Rattle.replay_session.specs.declared.reverse.Tested.{Tested}
use Rattle.replay_session.specs.declared.reverse.Tested.TheVariants as tested
use Rattle.replay_session.specs.Legs.{steps_of_leg, steps_of_way, first_steps}
use Rattle.replay_session.specs.Meets.{MeetsNone, Meets}
use Rattle.replay_session.specs.Ways.{thread_world, LegLeads}

-- how many steps a turn that was tested made
abbrev pub steps_of_test : Tested → ℕ
steps_of_test tested.Rests = 0
steps_of_test tested.Steps = 1
steps_of_test (tested.Hits m) = 1

-- the last step behind which a break or the test holds, behind a turn that was tested, in front of which n steps were
-- made
abbrev pub last_behind : Option Hit → ℕ → Tested → Option Hit
last_behind last n tested.Rests = last
last_behind last n tested.Steps = last
last_behind last n (tested.Hits m) = Some (record { steps = n + 1; met = m })

-- the last of a way, behind a leg with such a last step, in front of which n steps were made
abbrev pub last_of : Option Hit → ℕ → Option Hit → Option Hit
last_of last n None = last
last_of last n (Some hit) = Some (record { steps = n + hit.steps; met = hit.met })

module _ {State Op Reply Value Fixed : Type 0} (space : Space Op Reply Value Fixed) (code : Code State Op Reply Fixed) (log : Log) where
  -- in turns of threads 0, 1, .. in rounds from world w on, thread t makes, at world x, the step in front of which all
  -- threads together made n steps
  pub record StepInRounds (w : WorldAt State Value Fixed) (n : ℕ) (x : WorldAt State Value Fixed) (t : ℕ) : Type 0 where
    pub turns : ℕ
    pub at : x ≡ ordered_world space code log w [] turns
    pub thread : t ≡ thread_of_turn [] (length w.threads) turns
    pub step : makes_step (turn_of space code log x t) ≡ true
    pub steps : all_steps code x.threads ≡ all_steps code w.threads + n

  -- on a leg from world w on thread t makes, at world x, the step in front of which the leg made n steps
  abbrev pub StepOfLeg : Leg → WorldAt State Value Fixed → ℕ → WorldAt State Value Fixed → ℕ → Type 0
  StepOfLeg (leg.Thread thread steps) w n x t = (n < steps) × (x ≡ thread_world space code log w thread n) × (t ≡ thread)
  StepOfLeg (leg.Rounds steps) w n x t = (n < steps) × StepInRounds w n x t

  -- and so on a way: the step is of the first leg, or it comes behind that
  abbrev pub StepOfWay : List Leg → WorldAt State Value Fixed → ℕ → WorldAt State Value Fixed → ℕ → Type 0
  StepOfWay [] w n x t = ⊥
  StepOfWay (l ∷ ls) w n x t =
      StepOfLeg l w n x t ⊎ ((u : WorldAt State Value Fixed) × LegLeads space code log l w u × (steps_of_leg l ≤ n) × StepOfWay ls u (n - steps_of_leg l) x t)

  module _ (breaks : List Break) (holds : WorldAt State Value Fixed → ℕ → Option ℕ) where
    -- a turn of thread t, from world w to world v, and the test of the breaks, and the other one, behind it
    abbrev pub TurnTests : ℕ → WorldAt State Value Fixed → WorldAt State Value Fixed → Tested → Type 0
    TurnTests t w v tested.Rests = (makes_step (turn_of space code log w t) ≡ false) × (v ≡ w)
    TurnTests t w v tested.Steps = (makes_step (turn_of space code log w t) ≡ true) × MeetsNone space code log breaks holds w t × (v ≡ world_after_turn space code w t (turn_of space code log w t))
    TurnTests t w v (tested.Hits m) = Meets space code log breaks holds w t m × (v ≡ world_after_turn space code w t (turn_of space code log w t))

    module _ (Step : ℕ → WorldAt State Value Fixed → ℕ → Type 0) where
      -- behind no step from the first of these numbers on, and below the other, does a break hold, or the test
      abbrev pub NoneHitBetween : ℕ → ℕ → Type 0
      NoneHitBetween first bound = (n : ℕ) → first ≤ n → n < bound → (x : WorldAt State Value Fixed) (t : ℕ) → Step n x t → MeetsNone space code log breaks holds x t

      -- behind step m, one of the first so many, this holds, and behind those of them that come later neither a break
      -- nor the test
      pub record HitsLast (bound m : ℕ) (here : Met) : Type 0 where
        pub world : WorldAt State Value Fixed
        pub thread : ℕ
        pub within : m < bound
        pub step : Step m world thread
        pub hits : Meets space code log breaks holds world thread here
        pub none : NoneHitBetween (m + 1) bound

      -- which of the first so many steps is the last behind which a break or the test holds
      abbrev pub IsLastHit : ℕ → Option Hit → Type 0
      IsLastHit bound None = NoneHitBetween 0 bound
      IsLastHit bound (Some hit) = (m : ℕ) × (hit.steps ≡ m + 1) × HitsLast bound m hit.met

    -- the session goes back to behind the last step of its way, before the one that led to it, behind which a break or
    -- the test holds; to the opening world where there is none
    abbrev pub GoesBackUntil : (opened : WorldAt State Value Fixed) (old legs : List Leg) → Option Met → Type 0
    GoesBackUntil opened old legs (Some here) = (m : ℕ) × HitsLast (StepOfWay old opened) (steps_of_way old - 1) m here × (legs ≡ first_steps old (m + 1))
    GoesBackUntil opened old legs None = NoneHitBetween (StepOfWay old opened) 0 (steps_of_way old - 1) × (legs ≡ [])
