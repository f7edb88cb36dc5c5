use Rattle.std.proofs.Common.{take}
use Rattle.rw_objects.specs.Space.{AllBelow}
use Rattle.shared_tests.proofs.checked.all_below.Given as goal

abbrev pub invariant-loop-touch : goal.invariant-loop-touch
invariant-loop-touch l = AllBelow l.count (take l.touch-index l.touch-items)
