-- So many operations were made.
use Rattle.rw_objects.specs.Memory.{memory_of}
use Rattle.wreplay_bench.specs.Counted.{Counted}
use Rattle.wreplay_bench.proofs.versioned.stores.Given as goal

abbrev pub invariant-loop-access : goal.invariant-loop-access
invariant-loop-access l = Counted l.limits l.access (memory_of l.memory)
