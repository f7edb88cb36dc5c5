-- What came so far is kept.
use Rattle.std.proofs.Common.{◌≡◌, ◌≤◌, length}
use Rattle.adapter_messages.proofs.content.read_content.Given as goal

abbrev pub invariant-loop-chunk : goal.invariant-loop-chunk
invariant-loop-chunk g l = record {
  came : g.R.Source.brings l.initial.source l.content.items l.source;
  is_part : length l.content.items ≤ l.length;
  same : g.R.Source.failed l.source ≡ g.R.Source.failed l.initial.source;
  fewer : g.R.Source.calls l.source ≤ g.R.Source.calls l.initial.source;
}

abbrev pub decreases-loop-chunk : goal.decreases-loop-chunk
decreases-loop-chunk g l = g.R.Source.calls l.source
