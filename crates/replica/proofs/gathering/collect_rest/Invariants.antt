use Rattle.std.proofs.Common.{◌≡◌}
use Rattle.replica.specs.Log.{log_of}
use Rattle.replica.specs.Lines.{pending}
use Rattle.replica.proofs.RestLemmas.{SoFar}
use Rattle.replica.proofs.gathering.collect_rest.Given as goal

abbrev pub invariant-loop-fault : goal.invariant-loop-fault
invariant-loop-fault g l = record {
  so_far : SoFar (g.R.Source.brings l.initial.source) l.initial.chunk (log_of l.initial.replica) l.source l.chunk (log_of l.replica) l.number;
  same : g.R.Source.failed l.source ≡ g.R.Source.failed l.initial.source;
}

abbrev pub decreases-loop-fault : goal.decreases-loop-fault
decreases-loop-fault g l = pending (g.R.Source.calls l.source) l.chunk
