-- Runs to breaks that are made in parts.
use Rattle.std.specs.Prelude.{◌≡◌, ℕ, Bool, false, nat_le, List, ◌++◌, Some, slice_get}
use Rattle.replay_gate.specs.declared.breaks.Break.{Break}
use Rattle.replay_gate.specs.declared.breaks.Break.TheVariants as break
use Rattle.replay_gate.specs.declared.breaks.Stopped.{Stopped}
use Rattle.replay_gate.specs.declared.breaks.Stopped.TheVariants as stopped

-- a break that holds behind turns of this thread alone
abbrev pub OfThread : ℕ → Break → Type 0
OfThread t (break.Place thread place) = thread ≡ t
OfThread t (break.Step thread steps) = thread ≡ t
OfThread t (break.Write objects) = ⊥

-- breaks, and behind them more, which hold behind turns of this thread alone
pub record HasParts (t : ℕ) (breaks all : List Break) : Type 0 where
  pub more : List Break
  pub all_breaks : all ≡ breaks ++ more
  pub of_thread : (j : ℕ) (b : Break) → slice_get more j ≡ Some b → OfThread t b

-- whether a run stopped at none of so many breaks, but at one behind them
abbrev pub is_part : ℕ → Stopped → Bool
is_part breaks (stopped.Break index) = nat_le breaks index
is_part breaks stopped.Finished = false
is_part breaks stopped.Stuck = false
is_part breaks (stopped.Fault f) = false
