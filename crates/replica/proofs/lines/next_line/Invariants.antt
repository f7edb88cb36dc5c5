-- What came so far is the beginning of the line, which has no end yet, and what is held.
use Rattle.std.proofs.Common.{◌≡◌, ℕ, ◌≤◌, List, ◌++◌}
use Rattle.replica.specs.Lines.{HasNoEnd, pending}
use Rattle.replica.proofs.lines.next_line.Given as goal

abbrev pub invariant-loop-line : goal.invariant-loop-line
invariant-loop-line g l = record {
  begun : (got : List ℕ) × g.R.Source.brings l.initial.source got l.source × HasNoEnd l.line.items × (l.initial.chunk ++ got ≡ l.line.items ++ l.chunk);
  same : g.R.Source.failed l.source ≡ g.R.Source.failed l.initial.source;
  fewer : pending (g.R.Source.calls l.source) l.chunk ≤ pending (g.R.Source.calls l.initial.source) l.initial.chunk;
}

abbrev pub decreases-loop-line : goal.decreases-loop-line
decreases-loop-line g l = pending (g.R.Source.calls l.source) l.chunk
