-- Turns of one thread up to a test of the world behind its steps.
use Rattle.std.specs.Prelude.{◌≡◌, ◌⊎◌, ℕ, suc, ◌<◌, Option, Some, None}
use Rattle.rw_objects.specs.Space.{Space}
use Rattle.rw_objects.specs.Code.{Code}
use Rattle.event_core.specs.World.{WorldAt}
use Rattle.replay_laws.specs.declared.turn.Turn.TheVariants as turn
use Rattle.replay_laws.specs.Log.{Log}
use Rattle.replay_laws.specs.Turns.{turn_of}
use Rattle.replay_gate.specs.declared.answers.ReplayFault.TheVariants as fault
use Rattle.replay_gate.specs.Turned.{TurnRefused}
use Rattle.replay_session.specs.declared.gone.Ceased.{Ceased}
use Rattle.replay_session.specs.declared.gone.Ceased.TheVariants as ceased
use Rattle.replay_session.specs.Ways.{thread_world}

module _ {State Op Reply Value Fixed : Type 0} (space : Space Op Reply Value Fixed) (code : Code State Op Reply Fixed) (log : Log) (holds : WorldAt State Value Fixed → ℕ → Option ℕ) where
  -- the test holds behind none of the first n turns of thread t
  abbrev pub NoneHolds : ℕ → WorldAt State Value Fixed → ℕ → Type 0
  NoneHolds t w n = (i : ℕ) → i < n → holds (thread_world space code log w t (suc i)) t ≡ None

  -- why of so many steps of thread t, from world w to world v, no more were made
  abbrev pub UntilCeases : (t steps : ℕ) → (w v : WorldAt State Value Fixed) → Ceased → Type 0
  UntilCeases t steps w v ceased.All = (before : ℕ) × (steps ≡ suc before) × NoneHolds t w before × ((index : ℕ) × (holds v t ≡ Some index))
  UntilCeases t steps w v ceased.Done = NoneHolds t w steps × (turn_of space code log v t ≡ turn.Done)
  UntilCeases t steps w v (ceased.Fault f) = NoneHolds t w steps × ((f ≡ fault.NoMemory) ⊎ TurnRefused space code log v t f)
