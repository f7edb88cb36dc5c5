-- Where a way leads.
use Rattle.std.specs.Prelude.{◌≡◌, ℕ, zero, suc, ◌+◌, ◌<◌, true, List, [], ◌∷◌}
use Rattle.rw_objects.specs.Space.{Space}
use Rattle.rw_objects.specs.Code.{Code}
use Rattle.event_core.specs.Threads.{all_steps}
use Rattle.event_core.specs.World.{WorldAt}
use Rattle.replay_laws.specs.Log.{Log}
use Rattle.replay_laws.specs.Turns.{turn_of, world_after_turn}
use Rattle.replay_laws.specs.Ordered.{ordered_world}
use Rattle.replay_gate.specs.Answers.{makes_step}
use Rattle.replay_session.specs.declared.legs.Leg.{Leg}
use Rattle.replay_session.specs.declared.legs.Leg.TheVariants as leg

module _ {State Op Reply Value Fixed : Type 0} (space : Space Op Reply Value Fixed) (code : Code State Op Reply Fixed) (log : Log) where
  -- the world behind n turns of thread t
  abbrev pub thread_world : WorldAt State Value Fixed → ℕ → ℕ → WorldAt State Value Fixed
  thread_world w t zero = w
  thread_world w t (suc n) = world_after_turn space code (thread_world w t n) t (turn_of space code log (thread_world w t n) t)

  -- n turns of thread t, each of which makes a step, lead from one world to another
  pub record ThreadLeads (t n : ℕ) (w v : WorldAt State Value Fixed) : Type 0 where
    pub steps : (i : ℕ) → i < n → makes_step (turn_of space code log (thread_world w t i) t) ≡ true
    pub leads : v ≡ thread_world w t n

  -- turns of threads 0, 1, .. in rounds, by which all threads together make n steps, do
  pub record TurnsLead (n : ℕ) (w v : WorldAt State Value Fixed) : Type 0 where
    pub turns : ℕ
    pub leads : v ≡ ordered_world space code log w [] turns
    pub steps : all_steps code v.threads ≡ all_steps code w.threads + n

  abbrev pub LegLeads : Leg → WorldAt State Value Fixed → WorldAt State Value Fixed → Type 0
  LegLeads (leg.Thread thread steps) w v = ThreadLeads thread steps w v
  LegLeads (leg.Rounds steps) w v = TurnsLead steps w v

  -- the legs of a way do, one behind the other
  abbrev pub WayLeads : List Leg → WorldAt State Value Fixed → WorldAt State Value Fixed → Type 0
  WayLeads [] w v = v ≡ w
  WayLeads (l ∷ ls) w v = (u : WorldAt State Value Fixed) × LegLeads l w u × WayLeads ls u v
