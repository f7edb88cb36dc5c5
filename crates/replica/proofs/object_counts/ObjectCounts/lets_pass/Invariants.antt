-- The touches so far found their objects so.
use Rattle.std.proofs.Common.{◌≡◌, drop}
use Rattle.replica.specs.Counted.{is_open}
use Rattle.replica.specs.Kept.{counts_in}
use Rattle.replica.proofs.object_counts.ObjectCounts.lets_pass.Given as goal

abbrev pub invariant-loop-found : goal.invariant-loop-found
invariant-loop-found l = is_open (drop l.found-index l.found-items) (counts_in l.self) ≡ is_open l.found-items (counts_in l.self)
