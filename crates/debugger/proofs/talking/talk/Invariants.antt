-- The lines that came so far are answered, and the answers are taken.
use Rattle.std.proofs.Common.{◌≡◌, ℕ, List, []}
use Rattle.debugger.specs.Talks.{IsTalk}
use Rattle.debugger.proofs.talking.talk.Given as goal

abbrev pub invariant-loop-line : goal.invariant-loop-line
invariant-loop-line g l = record {
  begun : (answers : List ℕ) × IsTalk g.D.Respond.replies (λ text. g.R.Source.brings l.initial.source text l.source) (g.D.Respond.state l.initial.debugger) [] answers (g.D.Respond.state l.debugger) × g.W.Sink.takes l.initial.output answers l.output;
  suits : g.D.Respond.suits l.debugger;
  source : g.R.Source.failed l.source ≡ g.R.Source.failed l.initial.source;
  output : g.W.Sink.failed l.output ≡ g.W.Sink.failed l.initial.output;
}

abbrev pub decreases-loop-line : goal.decreases-loop-line
decreases-loop-line g l = g.R.Source.calls l.source
