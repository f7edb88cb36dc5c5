use Rattle.std.specs.List.{list_any}
use Rattle.std.proofs.Common.{◌≡◌, drop}
use Rattle.shared_core.specs.Gates.{opens}
use Rattle.shared_core.proofs.gates.some_opens.Given as goal

abbrev pub invariant-loop-touch : goal.invariant-loop-touch
invariant-loop-touch l = list_any (opens l.found) (drop l.touch-index l.touches) ≡ list_any (opens l.found) l.touches
