-- The lines that came so far are of fields.
use Rattle.std.proofs.Common.{◌≡◌, ◌≤◌}
use Rattle.adapter_messages.proofs.Headers.{HeaderCame}
use Rattle.adapter_messages.proofs.header.read_header.Given as goal

abbrev pub invariant-loop-line : goal.invariant-loop-line
invariant-loop-line g l = record {
  came : HeaderCame (λ text. g.R.Source.brings l.initial.source text l.source) l.announced l.is_begun;
  same : g.R.Source.failed l.source ≡ g.R.Source.failed l.initial.source;
  fewer : g.R.Source.calls l.source ≤ g.R.Source.calls l.initial.source;
}

abbrev pub decreases-loop-line : goal.decreases-loop-line
decreases-loop-line g l = g.R.Source.calls l.source
