-- Rounds of local steps behind which no break at a thread's steps holds.
use Rattle.std.specs.Prelude.{◌≡◌, ◌⊎◌, ℕ, ◌+◌, ◌<◌, ◌≤◌, List, Some, slice_get}
use Rattle.rw_objects.specs.Code.{Code}
use Rattle.event_core.specs.Threads.{ThreadAt}
use Rattle.event_core.specs.World.{WorldAt}
use Rattle.replay_gate.specs.declared.breaks.Break.{Break}
use Rattle.replay_gate.specs.declared.breaks.Break.TheVariants as break

module _ {State Op Reply Value Fixed : Type 0} (code : Code State Op Reply Fixed) where
  -- in k local steps more the thread does not come to have made exactly the break's steps
  abbrev pub IsClear : WorldAt State Value Fixed → ℕ → Break → Type 0
  IsClear w k (break.Step t steps) = (thread : ThreadAt State) → slice_get w.threads t ≡ Some thread → (steps ≤ code.steps thread.state) ⊎ (code.steps thread.state + k < steps)
  IsClear w k (break.Place t place) = Unit {0}
  IsClear w k (break.Write objects) = Unit {0}

  abbrev pub AreClear : WorldAt State Value Fixed → ℕ → List Break → Type 0
  AreClear w k breaks = (j : ℕ) (b : Break) → slice_get breaks j ≡ Some b → IsClear w k b
