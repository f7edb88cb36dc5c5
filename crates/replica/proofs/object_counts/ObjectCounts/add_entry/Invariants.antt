-- The touches so far are counted.
use Rattle.std.proofs.Common.{◌≡◌, ℕ, ◌+◌, drop}
use Rattle.replica.specs.Counted.{count_behind}
use Rattle.replica.specs.Kept.{counts_in, AreFew}
use Rattle.replica.proofs.object_counts.ObjectCounts.add_entry.Given as goal

abbrev pub invariant-loop-found : goal.invariant-loop-found
invariant-loop-found l = record {
  counts : (object : ℕ) → count_behind object (drop l.found-index l.found-items) (counts_in l.self object) ≡ count_behind object l.found-items (counts_in l.initial.self object);
  few : (n : ℕ) → AreFew l.initial.self n → AreFew l.self (n + l.found-index);
}
