-- Steps of a thread that are free.
use Rattle.std.specs.Prelude.{◌≡◌, ◌⊎◌, ℕ, ◌+◌, ◌<◌, ◌≤◌, List, Option, Some, slice_get, slice_index}
use Rattle.rw_objects.specs.declared.entry.Entry.{Entry}
use Rattle.rw_objects.specs.Space.{Space}
use Rattle.rw_objects.specs.Code.{Code}
use Rattle.event_core.specs.Threads.{ThreadAt}
use Rattle.event_core.specs.World.{WorldAt}
use Rattle.log_pieces.specs.declared.flat.Flat.{Flat}
use Rattle.replay_laws.specs.declared.turn.Turn.TheVariants as turn
use Rattle.replay_laws.specs.Log.{Log}
use Rattle.replay_laws.specs.Turns.{turn_of, world_after_turn}
use Rattle.replay_gate.specs.declared.ready.Ready.{Ready}
use Rattle.replay_gate.specs.declared.ready.Ready.TheVariants as ready
use Rattle.replay_gate.specs.Local.{steps_left_of}
use Rattle.replay_gate.specs.Ready.{GoesOnByEvent}
use Rattle.replay_gate.specs.declared.breaks.Break.{Break}
use Rattle.replay_gate.specs.declared.breaks.Break.TheVariants as break
use Rattle.replay_gate.specs.Breaks.{NoneHits}

-- in n steps more than it has made, thread t does not come to have made exactly the break's
abbrev pub IsFreeOf : ℕ → ℕ → ℕ → Break → Type 0
IsFreeOf t made n (break.Step of steps) = of ≡ t → (steps ≤ made) ⊎ (made + n < steps)
IsFreeOf t made n (break.Place of place) = Unit {0}
IsFreeOf t made n (break.Write objects) = Unit {0}

module _ {State Op Reply Fixed : Type 0} (code : Code State Op Reply Fixed) {Value Fixed' : Type 0} where
  -- thread t has n steps left to its logged end, behind none of which a break at its steps holds
  pub record IsFree (log : Log) (w : WorldAt State Value Fixed') (breaks : List Break) (t n : ℕ) : Type 0 where
    pub within : n ≤ steps_left_of code (log.end t) (slice_get w.threads t)
    pub clear : (thread : ThreadAt State) → slice_get w.threads t ≡ Some thread → (j : ℕ) (b : Break) → slice_get breaks j ≡ Some b → IsFreeOf t (code.steps thread.state) n b

  abbrev pub AreFree : Log → WorldAt State Value Fixed' → List Break → List ℕ → Type 0
  AreFree log w breaks free = (t : ℕ) → IsFree log w breaks t (slice_index free t)

module _ {State Op Reply Value Fixed : Type 0} (space : Space Op Reply Value Fixed) (code : Code State Op Reply Fixed) (log : Log) (breaks : List Break) (t : ℕ) where
  -- a free step leads from world w to world v: a local one, behind which no break holds, or an event, whose entry is
  -- held; or none was made
  abbrev pub GoesFreely : WorldAt State Value Fixed → Ready → Option (Flat Entry) → WorldAt State Value Fixed → Type 0
  GoesFreely w ready.Local held v = (turn_of space code log w t ≡ turn.Local) × NoneHits space code log w t breaks × (v ≡ world_after_turn space code w t turn.Local)
  GoesFreely w ready.Event held v = GoesOnByEvent space code log w t held v
  GoesFreely w ready.Not held v = v ≡ w
