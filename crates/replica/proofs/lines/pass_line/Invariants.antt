-- What came so far is bytes that were passed over, with no end among them, and what is held.
use Rattle.std.proofs.Common.{◌≡◌, ℕ, ◌≤◌, List, ◌++◌}
use Rattle.replica.specs.Lines.{HasNoEnd, pending}
use Rattle.replica.proofs.lines.pass_line.Given as goal

abbrev pub invariant-loop-chunk : goal.invariant-loop-chunk
invariant-loop-chunk g l = record {
  passed : (got front : List ℕ) × g.R.Source.brings l.initial.source got l.source × HasNoEnd front × (l.initial.chunk ++ got ≡ front ++ l.chunk);
  same : g.R.Source.failed l.source ≡ g.R.Source.failed l.initial.source;
  fewer : pending (g.R.Source.calls l.source) l.chunk ≤ pending (g.R.Source.calls l.initial.source) l.initial.chunk;
}

abbrev pub decreases-loop-chunk : goal.decreases-loop-chunk
decreases-loop-chunk g l = pending (g.R.Source.calls l.source) l.chunk
