-- The memory on which locks are measured: one page in blocks of 64 bytes, which does not grow.
use Rattle.block_objects.specs.declared.limits.MemoryLimits.{MemoryLimits}

abbrev pub one_page : MemoryLimits
one_page = record { initial = 1; capacity = 1; block = 6 }
