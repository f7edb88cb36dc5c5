use Rattle.std.proofs.Common.{◌≡◌, ◌++◌, ◌≤◌, length, drop}
use Rattle.rw_objects.specs.Counts.{all_found, count_at}
use Rattle.shared_parts.proofs.held.find.Given as goal

abbrev pub invariant-loop-touch : goal.invariant-loop-touch
invariant-loop-touch l = (l.found ++ all_found (drop l.touch-index l.touch-items) (count_at l.versions) ≡ all_found l.touches (count_at l.versions)) × (length l.found ≡ l.touch-index) × (length l.touch-items ≤ 3)
