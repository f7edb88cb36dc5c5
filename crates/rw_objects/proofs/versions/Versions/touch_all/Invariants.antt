-- What was found and counted so far, and what the touches that are left still want.
use Rattle.std.proofs.Common.{◌≡◌, ℕ, ◌++◌, length, drop}
use Rattle.rw_objects.specs.Counts.{count_at, CanCountAll, all_found, counts_after}
use Rattle.rw_objects.specs.Space.{RisesFrom, AllBelow}
use Rattle.rw_objects.proofs.versions.Versions.touch_all.Given as goal

abbrev pub invariant-loop-touch : goal.invariant-loop-touch
invariant-loop-touch l = record {
  found : l.found ++ all_found (drop l.touch-index l.touch-items) (count_at l.self) ≡ all_found l.touches (count_at l.fn.self);
  counts : (o : ℕ) → counts_after (drop l.touch-index l.touch-items) (count_at l.self) o ≡ counts_after l.touches (count_at l.fn.self) o;
  len : length l.self ≡ length l.fn.self;
  some : length l.found ≡ l.touch-index;
  rises : (n : ℕ) × RisesFrom n (drop l.touch-index l.touch-items);
  below : AllBelow (length l.self) (drop l.touch-index l.touch-items);
  room : CanCountAll (drop l.touch-index l.touch-items) l.self;
}
