-- Rounds of a replay in which no thread makes an event.
use Rattle.std.specs.Prelude.{◌≡◌, ◌⊎◌, ◌≤◌, ◌+◌, ℕ, List, Some, slice_get, length}
use Rattle.rw_objects.specs.Space.{Space}
use Rattle.rw_objects.specs.Code.{Code}
use Rattle.rw_objects.specs.LocalRun.{GoesLocally}
use Rattle.event_core.specs.Threads.{ThreadAt}
use Rattle.event_core.specs.World.{WorldAt}
use Rattle.event_core.specs.LocalRun.{thread_in}
use Rattle.log_pieces.specs.declared.end.End.{End}
use Rattle.log_pieces.specs.declared.flat.Flat.TheVariants.{Known}
use Rattle.replay_laws.specs.declared.turn.Turn.{Turn}
use Rattle.replay_laws.specs.declared.turn.Turn.TheVariants as turn
use Rattle.replay_laws.specs.declared.turn.Refusal.TheVariants.{Missing, Clash, Shut, Diverged}
use Rattle.replay_laws.specs.Log.{Log}
use Rattle.replay_laws.specs.Turns.{turn_of}
use Rattle.replay_gate.specs.declared.looking.Ahead.{Ahead}
use Rattle.replay_gate.specs.declared.looking.Ahead.TheVariants as ahead

-- a turn that makes no step, though its thread does not diverge
abbrev pub Rests : Turn → Type 0
Rests turn.Done = Unit {0}
Rests turn.Local = ⊥
Rests (turn.Event input) = ⊥
Rests (turn.Refused Shut) = Unit {0}
Rests (turn.Refused Missing) = Unit {0}
Rests (turn.Refused Clash) = Unit {0}
Rests (turn.Refused Diverged) = ⊥

module _ {State Op Reply Value Fixed : Type 0} (space : Space Op Reply Value Fixed) (code : Code State Op Reply Fixed) where
  -- k local steps, of those that the thread's logged end has left, lead to this state
  pub record GoesOnTo (log : Log) (k t : ℕ) (thread : ThreadAt State) (s : State) : Type 0 where
    pub end : End
    pub is_known : log.end t ≡ Some (Known end)
    pub within : code.steps thread.state + k ≤ end.steps
    pub goes : GoesLocally code k thread.state s

  -- what k rounds make of a thread: it makes k local steps, or rests
  abbrev pub IsBehindRounds : {M : Type 0} → (M → State) → Log → ℕ → WorldAt State Value Fixed → ℕ → ThreadAt State → Ahead M → Type 0
  IsBehindRounds state log k w t thread (ahead.Goes m) = GoesOnTo log k t thread (state m)
  IsBehindRounds state log k w t thread ahead.Rests = Rests (turn_of space code log w t)

  -- the thread, if there is one of that number
  abbrev pub IsAhead : {M : Type 0} → (M → State) → Log → ℕ → WorldAt State Value Fixed → ℕ → Ahead M → Type 0
  IsAhead state log k w t a = (thread : ThreadAt State) → slice_get w.threads t ≡ Some thread → IsBehindRounds state log k w t thread a

  pub record AreAhead {M : Type 0} (state : M → State) (log : Log) (k : ℕ) (w : WorldAt State Value Fixed) (aheads : List (Ahead M)) : Type 0 where
    pub len : length aheads ≡ length w.threads
    pub each : (t : ℕ) (a : Ahead M) → slice_get aheads t ≡ Some a → IsAhead state log k w t a

  -- a thread before the rounds, and the same behind them
  abbrev pub RoundsOf : Log → ℕ → WorldAt State Value Fixed → ℕ → ThreadAt State → ThreadAt State → Type 0
  RoundsOf log k w t thread after = ((s : State) × GoesOnTo log k t thread s × (after ≡ thread_in s thread)) ⊎ (Rests (turn_of space code log w t) × (after ≡ thread))

  -- k rounds of local steps lead from one world to another
  pub record AreLocalRounds (log : Log) (k : ℕ) (w v : WorldAt State Value Fixed) : Type 0 where
    pub memory : v.memory ≡ w.memory
    pub len : length v.threads ≡ length w.threads
    pub each : (t : ℕ) (thread after : ThreadAt State) → slice_get w.threads t ≡ Some thread → slice_get v.threads t ≡ Some after → RoundsOf log k w t thread after

  -- k rounds of local steps lead from one world to another, where none leave it as it is
  abbrev pub RoundsLead : Log → ℕ → WorldAt State Value Fixed → WorldAt State Value Fixed → Type 0
  RoundsLead log k w v = ((k ≡ 0) × (v ≡ w)) ⊎ AreLocalRounds log k w v
