-- What is known of the turns of threads that rest.
use Rattle.std.specs.Prelude.{◌≡◌, ◌≢◌, ℕ, ◌<◌, List, Some, slice_get}
use Rattle.rw_objects.specs.Space.{Space}
use Rattle.rw_objects.specs.Code.{Code}
use Rattle.event_core.specs.World.{WorldAt}
use Rattle.replay_laws.specs.Log.{Log}
use Rattle.replay_laws.specs.Turns.{turn_of}
use Rattle.replay_gate.specs.LocalRounds.{Rests, RoundsLead}
use Rattle.replay_gate.specs.declared.breaks.Break.{Break}
use Rattle.replay_gate.specs.declared.known.Known.{Known}
use Rattle.replay_gate.specs.declared.known.Known.TheVariants as known
use Rattle.replay_gate.specs.declared.running.Taken.{Taken}
use Rattle.replay_gate.specs.Clear.{AreClear}
use Rattle.replay_gate.specs.Stops.{taken_of}

-- what is known behind steps of other threads
abbrev pub known_later : Known → Known
known_later known.Nothing = known.Nothing
known_later (known.Rests x) = known.Rested x
known_later (known.Rested x) = known.Rested x

-- of so many threads one alone, of which nothing is known, does not rest
pub record IsLone (all : List Known) (count t : ℕ) : Type 0 where
  pub nothing : slice_get all t ≡ Some known.Nothing
  pub rest : (i : ℕ) → i < count → i ≢ t → (x : Taken) × (slice_get all i ≡ Some (known.Rests x))

module _ {State Op Reply Value Fixed : Type 0} (space : Space Op Reply Value Fixed) (code : Code State Op Reply Fixed) where
  -- the turn of thread t makes no step, and does this
  abbrev pub RestsSo : Log → WorldAt State Value Fixed → ℕ → Taken → Type 0
  RestsSo log w t x = Rests (turn_of space code log w t) × (x ≡ taken_of (turn_of space code log w t))

  -- so it was in some world in which the thread stood as it does
  pub record RestedSo (log : Log) (w : WorldAt State Value Fixed) (t : ℕ) (x : Taken) : Type 0 where
    pub world : WorldAt State Value Fixed
    pub same : slice_get world.threads t ≡ slice_get w.threads t
    pub rests : RestsSo log world t x

  abbrev pub IsKnown : Log → WorldAt State Value Fixed → ℕ → Known → Type 0
  IsKnown log w t known.Nothing = Unit {0}
  IsKnown log w t (known.Rests x) = RestsSo log w t x
  IsKnown log w t (known.Rested x) = RestedSo log w t x

  abbrev pub AreKnown : Log → WorldAt State Value Fixed → List Known → Type 0
  AreKnown log w all = (t : ℕ) (k : Known) → slice_get all t ≡ Some k → IsKnown log w t k

  -- some rounds of local steps lead from one world to another, behind which no break holds
  pub record GoesAhead (log : Log) (w v : WorldAt State Value Fixed) (breaks : List Break) : Type 0 where
    pub rounds : ℕ
    pub leads : RoundsLead space code log rounds w v
    pub clear : AreClear code w rounds breaks
