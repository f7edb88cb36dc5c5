-- The memory of the tests: one page in blocks of 64 bytes, which does not grow.
use Rattle.block_objects.specs.declared.limits.MemoryLimits.{MemoryLimits}

abbrev pub test_limits : MemoryLimits
test_limits = record { initial = 1; capacity = 1; block = 6 }
