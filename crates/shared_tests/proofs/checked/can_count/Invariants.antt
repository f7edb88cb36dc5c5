use Rattle.std.proofs.Common.{ℕ, ◌≡◌, take, true}
use Rattle.rw_objects.specs.Counts.{is_touched, CanCount, count_at}
use Rattle.shared_tests.proofs.checked.can_count.Given as goal

abbrev pub invariant-loop-touch : goal.invariant-loop-touch
invariant-loop-touch l = (o : ℕ) → is_touched (take l.touch-index l.touch-items) o ≡ true → CanCount (count_at l.versions o)
