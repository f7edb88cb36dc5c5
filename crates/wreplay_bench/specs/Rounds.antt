-- What the rounds of a measurement find.
use Rattle.std.specs.Prelude.{◌≡◌, ℕ, ◌<◌, ◌≤◌, List}
use Rattle.wasm_types.specs.declared.modules.Module.{Module}
use Rattle.binary_decoder.specs.Grammar.{Spells}
use Rattle.wasm_types.specs.Limits.{Within}
use Rattle.validator.specs.Valid.{WellTyped}

-- the bytes spell a module within the limits
abbrev pub Decodes : List ℕ → Type 0
Decodes bytes = (m : Module) × Spells m bytes × Within m

-- the bytes spell a module within the limits that is well typed
abbrev pub Validates : List ℕ → Type 0
Validates bytes = (m : Module) × Spells m bytes × Within m × WellTyped m

-- a fact holds, and each round counts, or it does not, and none counts
pub record Counts (fact : Type 0) (rounds count : ℕ) : Type 0 where
  pub at_most : count ≤ rounds
  pub all : fact → count ≡ rounds
  pub some : 0 < count → fact
