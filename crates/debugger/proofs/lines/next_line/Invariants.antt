-- What came so far is of one line, and is kept.
use Rattle.std.proofs.Common.{◌≡◌, ℕ, ◌≤◌, List}
use Rattle.debugger.specs.Lines.{HasNoEnd}
use Rattle.debugger.specs.Kept.{IsKept}
use Rattle.debugger.proofs.lines.next_line.Given as goal

abbrev pub invariant-loop-kept : goal.invariant-loop-kept
invariant-loop-kept g l = record {
  begun : (text : List ℕ) × HasNoEnd text × g.R.Source.brings l.initial.source text l.source × IsKept text l.kept;
  same : g.R.Source.failed l.source ≡ g.R.Source.failed l.initial.source;
  fewer : g.R.Source.calls l.source ≤ g.R.Source.calls l.initial.source;
}

abbrev pub decreases-loop-kept : goal.decreases-loop-kept
decreases-loop-kept g l = g.R.Source.calls l.source
