-- What is proved of ways.
use Rattle.std.specs.Prelude.{◌≡◌, ℕ, ◌+◌, List}
use Rattle.rw_objects.specs.Space.{Space}
use Rattle.rw_objects.specs.Code.{Code}
use Rattle.event_core.specs.Threads.{all_steps}
use Rattle.event_core.specs.World.{WorldAt}
use Rattle.replay_laws.specs.Log.{Log, HasLimits}
use Rattle.replay_session.specs.declared.legs.Leg.{Leg}
use Rattle.replay_session.specs.Legs.{steps_of_way, first_steps}
use Rattle.replay_session.specs.Ways.{WayLeads}

module _ {State Op Reply Value Fixed : Type 0} (space : Space Op Reply Value Fixed) (code : Code State Op Reply Fixed) where
  -- a way leads to one world
  abbrev pub WaysLeadOnce : Type 0
  WaysLeadOnce = (log : Log) (legs : List Leg) (w v u : WorldAt State Value Fixed) → WayLeads space code log legs w v → WayLeads space code log legs w u → v ≡ u

  -- a way has as many steps as all threads make on it
  abbrev pub WaysCountSteps : Type 0
  WaysCountSteps = (log : Log) → HasLimits log → (legs : List Leg) (w v : WorldAt State Value Fixed) → WayLeads space code log legs w v → all_steps code v.threads ≡ all_steps code w.threads + steps_of_way legs

  -- where a way leads somewhere, so do its first n steps
  abbrev pub FirstStepsLead : Type 0
  FirstStepsLead = (log : Log) (legs : List Leg) (w v : WorldAt State Value Fixed) → WayLeads space code log legs w v → (n : ℕ) → (u : WorldAt State Value Fixed) × WayLeads space code log (first_steps legs n) w u
