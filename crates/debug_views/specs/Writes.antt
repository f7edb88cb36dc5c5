-- The break at the writes of a range of addresses.
use Rattle.std.specs.Prelude.{◌≡◌, ◌↔◌, ℕ, true}
use Rattle.block_objects.specs.Objects.{block_object}
use Rattle.replay_gate.specs.declared.breaks.Break.{Break}
use Rattle.replay_gate.specs.declared.breaks.Break.TheVariants as break
use Rattle.replay_gate.specs.Breaks.{is_among}
use Rattle.debug_views.specs.Blocks.{HoldsByte}

-- the break holds behind a write of object o
abbrev pub IsOfBreak : Break → ℕ → Type 0
IsOfBreak (break.Place thread place) o = ⊥
IsOfBreak (break.Step thread steps) o = ⊥
IsOfBreak (break.Write objects) o = is_among objects o ≡ true

-- object o is a block that holds a byte of the range, where blocks have 2 ^ power bytes
pub record IsBlockOfRange (power from len o : ℕ) : Type 0 where
  pub block : ℕ
  pub is : o ≡ block_object block
  pub holds : HoldsByte power from len block

-- the break holds behind the writes of these blocks alone
abbrev pub IsWriteOfRange : ℕ → ℕ → ℕ → Break → Type 0
IsWriteOfRange power from len b = (o : ℕ) → IsOfBreak b o ↔ IsBlockOfRange power from len o
