-- How far the versions of a memory can have come.
use Rattle.std.specs.Prelude.{◌≡◌, ℕ, ◌≤◌}
use Rattle.block_objects.specs.declared.limits.MemoryLimits.{MemoryLimits}
use Rattle.block_objects.specs.Objects.{ObjectAt}
use Rattle.rw_objects.specs.Memory.{Memory}

-- a memory with these limits, on which so many operations were made at most
pub record Counted (limits : MemoryLimits) (made : ℕ) (m : Memory ObjectAt MemoryLimits) : Type 0 where
  pub fixed : m.fixed ≡ limits
  pub versions : (o : ℕ) → (m.counts o).version ≤ made
  pub reads : (o : ℕ) → (m.counts o).reads ≤ made
