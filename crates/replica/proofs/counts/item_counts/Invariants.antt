-- The items so far are counted.
use Rattle.std.specs.Prelude.{nat_lt, nat_le}
use Rattle.replica.specs.Flats.{is_clash}
use Rattle.replica.proofs.Counting.{Counted}
use Rattle.replica.proofs.counts.item_counts.Given as goal

abbrev pub invariant-loop-place : goal.invariant-loop-place
invariant-loop-place l = record {
  below : Counted (λ e. nat_lt e.0 l.end) l.log.entries l.place-iterator l.below;
  from : Counted (λ e. nat_le l.end e.0) l.log.entries l.place-iterator l.from;
  clashes : Counted (λ e. is_clash e.1) l.log.entries l.place-iterator l.clashes;
}
