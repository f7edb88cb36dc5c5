-- Steps by which threads go on.
use Rattle.std.specs.Prelude.{◌≡◌, ℕ, List}
use Rattle.rw_objects.specs.Space.{Space}
use Rattle.rw_objects.specs.Code.{Code}
use Rattle.event_core.specs.World.{WorldAt}
use Rattle.replay_laws.specs.declared.turn.Turn.TheVariants as turn
use Rattle.replay_laws.specs.Log.{Log}
use Rattle.replay_laws.specs.Turns.{turn_of}
use Rattle.replay_gate.specs.declared.ready.Ready.{Ready}
use Rattle.replay_gate.specs.declared.ready.Ready.TheVariants as ready
use Rattle.replay_gate.specs.declared.breaks.Break.{Break}
use Rattle.replay_gate.specs.declared.running.Taken.TheVariants as taken
use Rattle.replay_gate.specs.Stops.{TurnTakes}

module _ {State Op Reply Value Fixed : Type 0} (space : Space Op Reply Value Fixed) (code : Code State Op Reply Fixed) (log : Log) (breaks : List Break) (t : ℕ) where
  -- a step of thread t, behind which no break holds, leads from world w to world v, or none was made
  abbrev pub GoesOnBy : WorldAt State Value Fixed → Ready → WorldAt State Value Fixed → Type 0
  GoesOnBy w ready.Local v = (turn_of space code log w t ≡ turn.Local) × TurnTakes space code log w t breaks v taken.Step
  GoesOnBy w ready.Event v = TurnTakes space code log w t breaks v taken.Step
  GoesOnBy w ready.Not v = v ≡ w
