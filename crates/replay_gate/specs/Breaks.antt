-- Breaks: points behind turns of a replay.
use Rattle.std.specs.Prelude.{◌≡◌, ℕ, ◌-◌, ◌%◌, ◌<◌, ◌==◌, ◌&&◌, Bool, true, false, nat_le, nat_lt, List, Some, slice_get}
use Rattle.rw_objects.specs.Space.{Space}
use Rattle.rw_objects.specs.Code.{Code}
use Rattle.event_core.specs.Threads.{ThreadAt}
use Rattle.event_core.specs.World.{WorldAt}
use Rattle.replay_laws.specs.declared.turn.Turn.{Turn}
use Rattle.replay_laws.specs.declared.turn.Turn.TheVariants as turn
use Rattle.replay_laws.specs.Log.{Log}
use Rattle.replay_laws.specs.Turns.{turn_of, world_after_turn}
use Rattle.replay_gate.specs.Answers.{makes_step}
use Rattle.replay_gate.specs.declared.breaks.Break.{Break}
use Rattle.replay_gate.specs.declared.breaks.Break.TheVariants as break
use Rattle.replay_gate.specs.declared.breaks.Every.{Every}
use Rattle.replay_gate.specs.declared.breaks.Every.TheVariants as every
use Rattle.replay_gate.specs.declared.breaks.ObjectRange.{ObjectRange}

abbrev pub is_event : Turn → Bool
is_event turn.Done = false
is_event turn.Local = false
is_event (turn.Event input) = true
is_event (turn.Refused r) = false

-- the object is meant that so many others of the range stand before
abbrev pub is_meant : Every → ℕ → Bool
is_meant every.Object before = true
is_meant every.Second before = before % 2 == 0

abbrev pub is_among : ObjectRange → ℕ → Bool
is_among objects o = nat_le objects.from o && nat_lt o objects.until && is_meant objects.every (o - objects.from)

-- one of these objects has another version, which counts its writes
pub record IsWritten {State Value Fixed : Type 0} (w v : WorldAt State Value Fixed) (objects : ObjectRange) : Type 0 where
  pub object : ℕ
  pub among : is_among objects object ≡ true
  pub changed : (v.memory.counts object).version ≡ (w.memory.counts object).version → ⊥

module _ {State Op Reply Value Fixed : Type 0} (space : Space Op Reply Value Fixed) (code : Code State Op Reply Fixed) where
  -- a turn of thread t did this and led from world w to world v: a break holds behind it
  pub record IsPlace (v : WorldAt State Value Fixed) (t : ℕ) (x : Turn) (thread place : ℕ) : Type 0 where
    pub same : t ≡ thread
    pub event : is_event x ≡ true
    pub at : ThreadAt State
    pub exists : slice_get v.threads t ≡ Some at
    pub places : at.places ≡ place

  pub record IsStep (v : WorldAt State Value Fixed) (t : ℕ) (thread steps : ℕ) : Type 0 where
    pub same : t ≡ thread
    pub at : ThreadAt State
    pub exists : slice_get v.threads t ≡ Some at
    pub steps_made : code.steps at.state ≡ steps

  abbrev pub Holds : WorldAt State Value Fixed → WorldAt State Value Fixed → ℕ → Turn → Break → Type 0
  Holds w v t x (break.Place thread place) = IsPlace v t x thread place
  Holds w v t x (break.Step thread steps) = IsStep v t thread steps
  Holds w v t x (break.Write objects) = IsWritten w v objects

  -- the turn of thread t from world w on makes a step, and behind it the break holds
  pub record Hits (log : Log) (w : WorldAt State Value Fixed) (t : ℕ) (b : Break) : Type 0 where
    pub step : makes_step (turn_of space code log w t) ≡ true
    pub holds : Holds w (world_after_turn space code w t (turn_of space code log w t)) t (turn_of space code log w t) b

  -- behind that turn no break of the list holds
  abbrev pub NoneHits : Log → WorldAt State Value Fixed → ℕ → List Break → Type 0
  NoneHits log w t breaks = (j : ℕ) (b : Break) → slice_get breaks j ≡ Some b → Hits log w t b → ⊥

  -- behind that turn the break at the index holds, and none before it in the list
  pub record FirstHits (log : Log) (w : WorldAt State Value Fixed) (t : ℕ) (breaks : List Break) (index : ℕ) : Type 0 where
    pub one : Break
    pub is : slice_get breaks index ≡ Some one
    pub hits : Hits log w t one
    pub first : (j : ℕ) (b : Break) → j < index → slice_get breaks j ≡ Some b → Hits log w t b → ⊥
