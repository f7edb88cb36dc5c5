-- Which blocks hold a byte of a range of addresses.
use Rattle.std.specs.Prelude.{◌≡◌, ◌↔◌, ℕ, ◌+◌, ◌^◌, ◌<◌, ◌≤◌}
use Rattle.block_objects.specs.Objects.{block_of}
use Rattle.debug_views.specs.declared.blocks.BlockRange.{BlockRange}

-- block b holds a byte of the range, where blocks have 2 ^ power bytes and addresses 32 bits
pub record HoldsByte (power from len b : ℕ) : Type 0 where
  pub address : ℕ
  pub of_memory : address < 2 ^ 32
  pub from_start : from ≤ address
  pub before_end : address < from + len
  pub in_block : block_of power address ≡ b

abbrev pub IsBetween : BlockRange → ℕ → Type 0
IsBetween blocks b = (blocks.first ≤ b) × (b < blocks.past)

-- exactly the blocks that hold a byte of the range
abbrev pub AreHolding : ℕ → ℕ → ℕ → BlockRange → Type 0
AreHolding power from len blocks = (b : ℕ) → IsBetween blocks b ↔ HoldsByte power from len b
