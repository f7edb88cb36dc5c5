-- The objects so far are those of the set.
use Rattle.std.proofs.Common.{◌≡◌, ◌==◌, ℕ, take}
use Rattle.std.specs.List.{list_any}
use Rattle.std.specs.BTreeSet.{contains}
use Rattle.std.specs.Ordering.{nat_cmp}
use Rattle.replica.proofs.choice.set_of.Given as goal

abbrev pub invariant-loop-object : goal.invariant-loop-object
invariant-loop-object l = (object : ℕ) → contains nat_cmp l.set object ≡ list_any (λ m. m == object) (take l.object-index l.objects)
