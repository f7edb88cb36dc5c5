-- What came so far is of one line, and is kept.
use Rattle.std.proofs.Common.{◌≡◌, ◌≤◌, length}
use Rattle.adapter_messages.specs.HeaderLines.{HasNoEnd}
use Rattle.adapter_messages.proofs.header_line.next_line.Given as goal

abbrev pub invariant-loop-kept : goal.invariant-loop-kept
invariant-loop-kept g l = record {
  has_no_end : HasNoEnd l.kept.items;
  is_short : length l.kept.items ≤ 1025;
  came : g.R.Source.brings l.initial.source l.kept.items l.source;
  same : g.R.Source.failed l.source ≡ g.R.Source.failed l.initial.source;
  fewer : g.R.Source.calls l.source ≤ g.R.Source.calls l.initial.source;
}

abbrev pub decreases-loop-kept : goal.decreases-loop-kept
decreases-loop-kept g l = g.R.Source.calls l.source
