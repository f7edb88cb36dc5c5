-- What is left is the same until a pair is given.
use Rattle.std.proofs.Common.{◌≡◌, ◌+◌, length}
use Rattle.log_pieces.specs.Runs.{left_of, LeftLow}
use Rattle.log_pieces.proofs.Left.{one_if}
use Rattle.log_pieces.proofs.runs_iter.RunsIterIterator.next.Given as goal

abbrev pub invariant-loop-self : goal.invariant-loop-self
invariant-loop-self g l = record {
  same : left_of g.T.Packed.read l.self-inside.number l.self-inside.left l.self-inside.rest.now l.self-inside.pages
      ≡ left_of g.T.Packed.read l.initial.self-inside.number l.initial.self-inside.left l.initial.self-inside.rest.now l.initial.self-inside.pages;
  low : LeftLow l.self-inside.number l.self-inside.pages;
}

abbrev pub decreases-loop-self : goal.decreases-loop-self
decreases-loop-self g l = length l.self-inside.pages + length l.self-inside.pages + one_if l.self-inside.left
