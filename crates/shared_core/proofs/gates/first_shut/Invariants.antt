use Rattle.std.proofs.Common.{◌≡◌, drop}
use Rattle.rw_objects.specs.Counts.{count_at}
use Rattle.shared_core.specs.Gates.{first_shut}
use Rattle.shared_core.proofs.gates.first_shut.Given as goal

abbrev pub invariant-loop-found : goal.invariant-loop-found
invariant-loop-found l = first_shut (drop l.found-index l.wanted) (count_at l.versions) ≡ first_shut l.wanted (count_at l.versions)
