-- Where a replay up to a break stops is told by its log, its start, its order and its breaks.
use Rattle.std.specs.Prelude.{◌≡◌, ℕ, List}
use Rattle.rw_objects.specs.Space.{Space}
use Rattle.rw_objects.specs.Code.{Code}
use Rattle.event_core.specs.World.{WorldAt}
use Rattle.replay_laws.specs.Log.{Log}
use Rattle.replay_gate.specs.declared.answers.ReplayFault.TheVariants as fault
use Rattle.replay_gate.specs.declared.breaks.Break.{Break}
use Rattle.replay_gate.specs.declared.breaks.Stopped.{Stopped}
use Rattle.replay_gate.specs.declared.breaks.Stopped.TheVariants as stopped
use Rattle.replay_gate.specs.Stops.{StopsAt}

-- memory was not wanting
abbrev pub HadMemory : Stopped → Type 0
HadMemory s = s ≡ stopped.Fault fault.NoMemory → ⊥

module _ {State Op Reply Value Fixed : Type 0} (space : Space Op Reply Value Fixed) (code : Code State Op Reply Fixed) where
  -- but for want of memory it stops at one world, with one answer
  abbrev pub StopsOnce : Type 0
  StopsOnce = (log : Log) (start : WorldAt State Value Fixed) (order : List ℕ) (breaks : List Break) (v u : WorldAt State Value Fixed) (s r : Stopped) → StopsAt space code log start order breaks v s → StopsAt space code log start order breaks u r
      → HadMemory s → HadMemory r → (v ≡ u) × (s ≡ r)
