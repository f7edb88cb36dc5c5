use Rattle.std.proofs.Common.{◌≡◌}
use Rattle.replica.specs.Lines.{pending}
use Rattle.replica.proofs.JudgedLemmas.{FoundSoFar}
use Rattle.replica.proofs.skipping.collect_skipping.Given as goal

abbrev pub invariant-loop-fault : goal.invariant-loop-fault
invariant-loop-fault g l = record {
  so_far : FoundSoFar (g.R.Source.brings l.fn.source) l.source l.chunk l.kept.replica l.kept.skipped;
  same : g.R.Source.failed l.source ≡ g.R.Source.failed l.fn.source;
}

abbrev pub decreases-loop-fault : goal.decreases-loop-fault
decreases-loop-fault g l = pending (g.R.Source.calls l.source) l.chunk
