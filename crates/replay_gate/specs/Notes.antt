-- What is noted of a replay by who watches it: of each event, told by the world before it, its thread and the world
-- behind it, in the order of the turns.
use Rattle.std.specs.Prelude.{◌≡◌, ℕ, zero, suc, Bool, true, false, List, [], ◌++◌, length}
use Rattle.rw_objects.specs.Space.{Space}
use Rattle.rw_objects.specs.Code.{Code}
use Rattle.event_core.specs.World.{WorldAt}
use Rattle.replay_laws.specs.declared.turn.Turn.{Turn}
use Rattle.replay_laws.specs.declared.turn.Turn.TheVariants as turn
use Rattle.replay_laws.specs.Log.{Log}
use Rattle.replay_laws.specs.Turns.{turn_of, world_after_turn}
use Rattle.replay_laws.specs.Ordered.{thread_of_turn, ordered_world}
use Rattle.replay_gate.specs.declared.breaks.Stopped.{Stopped}
use Rattle.replay_gate.specs.declared.breaks.Stopped.TheVariants as stopped
use Rattle.replay_gate.specs.declared.ready.Ready.{Ready}
use Rattle.replay_gate.specs.declared.ready.Ready.TheVariants as ready

-- one who watches has noted this more; if it had the memory for all of its notes, so it had before
pub record HasNoted {Watcher Asked : Type 0} (asked : Watcher → Asked) (whole : Watcher → Type 0) (notes : Watcher → List ℕ) (old new : Watcher) (text : List ℕ) : Type 0 where
  pub same : asked new ≡ asked old
  pub before : whole new → whole old
  pub is : whole new → notes new ≡ notes old ++ text

-- what is noted where the replay stops behind a turn, or before one that it can't make
abbrev pub noted_at : Stopped → List ℕ → List ℕ
noted_at (stopped.Break index) text = text
noted_at stopped.Finished text = []
noted_at stopped.Stuck text = []
noted_at (stopped.Fault f) text = []

-- what is noted where a step was made, or none
abbrev pub noted_if : Ready → List ℕ → List ℕ
noted_if ready.Local text = text
noted_if ready.Event text = text
noted_if ready.Not text = []

abbrev pub event_note : Bool → List ℕ → List ℕ
event_note false text = []
event_note true text = text

module _ {State Op Reply Value Fixed : Type 0} (space : Space Op Reply Value Fixed) (code : Code State Op Reply Fixed) (note : WorldAt State Value Fixed → ℕ → WorldAt State Value Fixed → List ℕ) where
  -- of a turn that is an event
  abbrev pub note_by : WorldAt State Value Fixed → ℕ → Turn → List ℕ
  note_by w t turn.Done = []
  note_by w t turn.Local = []
  note_by w t (turn.Event input) = note w t (world_after_turn space code w t (turn.Event input))
  note_by w t (turn.Refused r) = []

  abbrev pub note_of_turn : Log → WorldAt State Value Fixed → ℕ → List ℕ
  note_of_turn log w t = note_by w t (turn_of space code log w t)

  module _ (log : Log) (start : WorldAt State Value Fixed) (order : List ℕ) where
    -- of the first k turns
    abbrev pub notes : ℕ → List ℕ
    notes zero = []
    notes (suc k) = notes k ++ note_of_turn log (ordered_world space code log start order k) (thread_of_turn order (length start.threads) k)

    -- one who watches has noted the turns that lead to world v
    pub record HasNotedTurns {Watcher Asked : Type 0} (asked : Watcher → Asked) (whole : Watcher → Type 0) (noted : Watcher → List ℕ) (old new : Watcher) (v : WorldAt State Value Fixed) : Type 0 where
      pub turns : ℕ
      pub at : v ≡ ordered_world space code log start order turns
      pub has : HasNoted asked whole noted old new (notes turns)
