-- Local turns of a thread that has steps left.
use Rattle.std.specs.Prelude.{ℕ, ◌-◌, ◌<◌, ◌≤◌, Bool, true, false, List, Option, Some, None, slice_get, slice_index}
use Rattle.rw_objects.specs.Code.{Code}
use Rattle.event_core.specs.Threads.{ThreadAt}
use Rattle.event_core.specs.World.{WorldAt}
use Rattle.log_pieces.specs.declared.end.End.{End}
use Rattle.log_pieces.specs.declared.flat.Flat.{Flat}
use Rattle.log_pieces.specs.declared.flat.Flat.TheVariants as flat
use Rattle.replay_laws.specs.declared.turn.Turn.{Turn}
use Rattle.replay_laws.specs.declared.turn.Turn.TheVariants as turn
use Rattle.replay_laws.specs.Log.{Log}

abbrev pub is_local : Turn → Bool
is_local turn.Done = false
is_local turn.Local = true
is_local (turn.Event input) = false
is_local (turn.Refused r) = false

module _ {State Op Reply Fixed : Type 0} (code : Code State Op Reply Fixed) where
  -- how many steps a thread has left to an end
  abbrev pub steps_left_of : Option (Flat End) → Option (ThreadAt State) → ℕ
  steps_left_of None thread = 0
  steps_left_of (Some flat.Clash) thread = 0
  steps_left_of (Some (flat.Known end)) None = 0
  steps_left_of (Some (flat.Known end)) (Some thread) = end.steps - code.steps thread.state

  -- some, to its logged end
  abbrev pub HasStepsLeft : {Value Fixed' : Type 0} → Log → WorldAt State Value Fixed' → ℕ → Type 0
  HasStepsLeft log w t = 0 < steps_left_of (log.end t) (slice_get w.threads t)

  -- so many of each thread
  abbrev pub AreLeft : {Value Fixed' : Type 0} → Log → WorldAt State Value Fixed' → List ℕ → Type 0
  AreLeft log w left = (t : ℕ) → slice_index left t ≤ steps_left_of (log.end t) (slice_get w.threads t)
