-- What turns of one thread, one behind the other, make and answer.
use Rattle.std.specs.Prelude.{◌≡◌, ◌⊎◌, ℕ, ◌<◌, Bool, true, false}
use Rattle.rw_objects.specs.Space.{Space}
use Rattle.rw_objects.specs.Code.{Code}
use Rattle.event_core.specs.World.{WorldAt}
use Rattle.replay_laws.specs.declared.turn.Turn.{Turn}
use Rattle.replay_laws.specs.declared.turn.Turn.TheVariants as turn
use Rattle.replay_laws.specs.Log.{Log}
use Rattle.replay_laws.specs.Turns.{turn_of, world_after_turn}
use Rattle.replay_gate.specs.declared.answers.ReplayFault.{ReplayFault}
use Rattle.replay_gate.specs.declared.answers.ReplayFault.TheVariants as fault
use Rattle.replay_gate.specs.declared.answers.Turned.{Turned}
use Rattle.replay_gate.specs.declared.answers.Turned.TheVariants as turned
use Rattle.replay_gate.specs.Answers.{makes_step}
use Rattle.replay_gate.specs.Turned.{TurnRefused}
use Rattle.replay_session.specs.declared.gone.Ceased.{Ceased}
use Rattle.replay_session.specs.declared.gone.Ceased.TheVariants as ceased

-- how many steps a turn makes
abbrev pub steps_of_turn : Turn → ℕ
steps_of_turn turn.Done = 0
steps_of_turn turn.Local = 1
steps_of_turn (turn.Event input) = 1
steps_of_turn (turn.Refused r) = 0

abbrev pub steps_of_answer : Turned → ℕ
steps_of_answer turned.Done = 0
steps_of_answer turned.Local = 1
steps_of_answer turned.Event = 1

abbrev pub is_want_of_memory : ReplayFault → Bool
is_want_of_memory (fault.Clash thread place) = false
is_want_of_memory (fault.Missing thread place) = false
is_want_of_memory fault.Shut = false
is_want_of_memory (fault.Diverged thread place) = false
is_want_of_memory fault.NoMemory = true
is_want_of_memory fault.Stuck = false

-- where it was a fault by which no further turn was made, this is said of it
abbrev pub IfFault : Ceased → (ReplayFault → Type 0) → Type 0
IfFault ceased.All P = Unit {0}
IfFault ceased.Done P = Unit {0}
IfFault (ceased.Fault f) P = P f

module _ {State Op Reply Value Fixed : Type 0} (space : Space Op Reply Value Fixed) (code : Code State Op Reply Fixed) (log : Log) where
  -- why of so many steps of thread t, up to world v, no more were made
  abbrev pub CeasesSo : (t steps most : ℕ) → WorldAt State Value Fixed → Ceased → Type 0
  CeasesSo t steps most v ceased.All = steps ≡ most
  CeasesSo t steps most v ceased.Done = (steps < most) × (turn_of space code log v t ≡ turn.Done)
  CeasesSo t steps most v (ceased.Fault f) = (f ≡ fault.NoMemory) ⊎ ((steps < most) × TurnRefused space code log v t f)

  -- what one turn of thread t, from world w to world v, answers: all where it makes a step
  abbrev pub TurnCeases : ℕ → WorldAt State Value Fixed → WorldAt State Value Fixed → Ceased → Type 0
  TurnCeases t w v ceased.All = (makes_step (turn_of space code log w t) ≡ true) × (v ≡ world_after_turn space code w t (turn_of space code log w t))
  TurnCeases t w v ceased.Done = (turn_of space code log w t ≡ turn.Done) × (v ≡ w)
  TurnCeases t w v (ceased.Fault f) = ((f ≡ fault.NoMemory) ⊎ TurnRefused space code log w t f) × (v ≡ w)

  -- thread t goes on from world w to world v by its turn, or nothing is done
  abbrev pub GoesOn : ℕ → WorldAt State Value Fixed → WorldAt State Value Fixed → Bool → Type 0
  GoesOn t w v true = (makes_step (turn_of space code log w t) ≡ true) × (v ≡ world_after_turn space code w t (turn_of space code log w t))
  GoesOn t w v false = v ≡ w

  -- a turn of thread t, from world w to world v, that passes the thread over where it is refused, makes so many steps
  abbrev pub TurnPasses : ℕ → WorldAt State Value Fixed → WorldAt State Value Fixed → ℕ → Type 0
  TurnPasses t w v n = (n ≡ steps_of_turn (turn_of space code log w t)) × (v ≡ world_after_turn space code w t (turn_of space code log w t))
