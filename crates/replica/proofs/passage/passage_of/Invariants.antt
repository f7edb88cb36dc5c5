-- Each row was let pass.
use Rattle.std.proofs.Common.{[], ◌-◌, ◌^◌, length}
use Rattle.replica.specs.Passage.{IsPassage}
use Rattle.replica.specs.Kept.{Keeps}
use Rattle.replica.proofs.passage.passage_of.Given as goal

abbrev pub invariant-loop-passage : goal.invariant-loop-passage
invariant-loop-passage l = record {
  passes : IsPassage l.log [] l.passage.rows.items;
  keeps : Keeps l.passage;
}

abbrev pub decreases-loop-passage : goal.decreases-loop-passage
decreases-loop-passage l = 2 ^ 64 - length l.passage.rows.items
