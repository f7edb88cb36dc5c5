use Rattle.std.proofs.Common.{◌≡◌, drop, Some}
use Rattle.rw_objects.specs.Counts.{count_at}
use Rattle.shared_core.specs.Missing.{missing_from, missing_calls}
use Rattle.shared_core.proofs.missing.missing_calls.Given as goal

abbrev pub invariant-loop-found : goal.invariant-loop-found
invariant-loop-found l = missing_from (Some l.most) (drop l.found-index l.found-items) (count_at l.versions) ≡ missing_calls l.expected.found (count_at l.versions)
