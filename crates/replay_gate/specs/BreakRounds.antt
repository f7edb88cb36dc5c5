-- Where a replay up to a break stands in its rounds.
use Rattle.std.specs.Prelude.{◌≡◌, ℕ, ◌+◌, ◌*◌, ◌<◌, ◌≤◌, Bool, true, false, List, length}
use Rattle.rw_objects.specs.Space.{Space}
use Rattle.rw_objects.specs.Code.{Code}
use Rattle.event_core.specs.World.{WorldAt}
use Rattle.replay_laws.specs.declared.turn.Turn.TheVariants.{Done}
use Rattle.replay_laws.specs.Log.{Log}
use Rattle.replay_laws.specs.Turns.{turn_of}
use Rattle.replay_gate.specs.Answers.{makes_step}
use Rattle.replay_gate.specs.declared.breaks.Break.{Break}
use Rattle.replay_gate.specs.Stops.{GoesOn, IsBehind}

module _ {State Op Reply Value Fixed : Type 0} (space : Space Op Reply Value Fixed) (code : Code State Op Reply Fixed) where
  -- some thread does not stand at its logged end
  pub record IsHeld (log : Log) (w : WorldAt State Value Fixed) : Type 0 where
    pub thread : ℕ
    pub held : turn_of space code log w thread ≡ Done → ⊥

  -- in a round behind the order, where the turns of threads below this one were taken; if none made a step so far, none
  -- of these threads has one, and all of them are done unless one was held
  pub record IsInRound (log : Log) (start : WorldAt State Value Fixed) (order : List ℕ) (breaks : List Break) (thread : ℕ) (made held : Bool) (w : WorldAt State Value Fixed) : Type 0 where
    pub rounds : ℕ
    pub turn : IsBehind space code log start order breaks (length order + (rounds * length start.threads + thread)) w
    pub within : thread ≤ length start.threads
    pub still : made ≡ false → (t : ℕ) → t < thread → makes_step (turn_of space code log w t) ≡ false
    pub shut : made ≡ false → (t : ℕ) → t < thread → GoesOn (turn_of space code log w t)
    pub done : made ≡ false → held ≡ false → (t : ℕ) → t < thread → turn_of space code log w t ≡ Done
    pub waits : made ≡ false → held ≡ true → IsHeld log w
