-- Whole rounds of turns of all threads.
use Rattle.std.specs.Prelude.{◌≡◌, ◌+◌, ◌*◌, ◌<◌, ℕ, false, [], length}
use Rattle.rw_objects.specs.Space.{Space}
use Rattle.rw_objects.specs.Code.{Code}
use Rattle.event_core.specs.Threads.{all_steps}
use Rattle.event_core.specs.World.{WorldAt}
use Rattle.replay_laws.specs.Log.{Log}
use Rattle.replay_laws.specs.Ordered.{ordered_world}
use Rattle.replay_laws.specs.Turns.{turn_of}
use Rattle.replay_gate.specs.Answers.{makes_step}

module _ {State Op Reply Value Fixed : Type 0} (space : Space Op Reply Value Fixed) (code : Code State Op Reply Fixed) (log : Log) where
  -- whole rounds, by which all threads together make n steps, lead from one world to another
  pub record RoundsGo (n : ℕ) (w v : WorldAt State Value Fixed) : Type 0 where
    pub rounds : ℕ
    pub leads : v ≡ ordered_world space code log w [] (rounds * length w.threads)
    pub steps : all_steps code v.threads ≡ all_steps code w.threads + n

  -- no thread has a step
  abbrev pub AllRest : WorldAt State Value Fixed → Type 0
  AllRest w = (t : ℕ) → t < length w.threads → makes_step (turn_of space code log w t) ≡ false

  -- whole rounds, by which fewer steps are made, lead from a world to one at which no thread has a step
  pub record RunsDry (n : ℕ) (w v : WorldAt State Value Fixed) : Type 0 where
    pub made : ℕ
    pub few : made < n
    pub rounds : RoundsGo made w v
    pub rest : AllRest v
