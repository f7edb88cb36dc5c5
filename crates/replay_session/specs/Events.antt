-- Events among turns of one thread, one behind the other.
use Rattle.std.specs.Prelude.{◌≡◌, ◌⊎◌, ℕ, zero, suc, ◌+◌, ◌<◌}
use Rattle.rw_objects.specs.Space.{Space}
use Rattle.rw_objects.specs.Code.{Code}
use Rattle.event_core.specs.World.{WorldAt}
use Rattle.replay_laws.specs.declared.turn.Turn.{Turn}
use Rattle.replay_laws.specs.declared.turn.Turn.TheVariants as turn
use Rattle.replay_laws.specs.Log.{Log}
use Rattle.replay_laws.specs.Turns.{turn_of}
use Rattle.replay_gate.specs.declared.answers.ReplayFault.TheVariants as fault
use Rattle.replay_gate.specs.declared.answers.Turned.{Turned}
use Rattle.replay_gate.specs.declared.answers.Turned.TheVariants as turned
use Rattle.replay_gate.specs.Turned.{TurnRefused}
use Rattle.replay_session.specs.declared.gone.Ceased.{Ceased}
use Rattle.replay_session.specs.declared.gone.Ceased.TheVariants as ceased
use Rattle.replay_session.specs.Ways.{thread_world}

-- how many events a turn is
abbrev pub event_count : Turn → ℕ
event_count turn.Done = 0
event_count turn.Local = 0
event_count (turn.Event input) = 1
event_count (turn.Refused r) = 0

abbrev pub events_of_answer : Turned → ℕ
events_of_answer turned.Done = 0
events_of_answer turned.Local = 0
events_of_answer turned.Event = 1

module _ {State Op Reply Value Fixed : Type 0} (space : Space Op Reply Value Fixed) (code : Code State Op Reply Fixed) (log : Log) where
  -- how many of the first n turns of thread t are events
  abbrev pub events_on : ℕ → WorldAt State Value Fixed → ℕ → ℕ
  events_on t w zero = 0
  events_on t w (suc n) = events_on t w n + event_count (turn_of space code log (thread_world space code log w t n) t)

  -- the last of the first n turns of thread t is an event, or there is none: no fewer turns make as many events
  abbrev pub EndsByEvent : ℕ → WorldAt State Value Fixed → ℕ → Type 0
  EndsByEvent t w zero = Unit {0}
  EndsByEvent t w (suc n) = event_count (turn_of space code log (thread_world space code log w t n) t) ≡ 1

  -- why of so many steps of thread t, from world w to world v, no more were made
  abbrev pub EventsCease : (t steps most : ℕ) → (w v : WorldAt State Value Fixed) → Ceased → Type 0
  EventsCease t steps most w v ceased.All = (events_on t w steps ≡ most) × EndsByEvent t w steps
  EventsCease t steps most w v ceased.Done = (events_on t w steps < most) × (turn_of space code log v t ≡ turn.Done)
  EventsCease t steps most w v (ceased.Fault f) = (f ≡ fault.NoMemory) ⊎ ((events_on t w steps < most) × TurnRefused space code log v t f)
