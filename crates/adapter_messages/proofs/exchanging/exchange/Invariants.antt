-- The contents that came so far are answered, and the answers are taken.
use Rattle.std.proofs.Common.{◌≡◌, ℕ, List, []}
use Rattle.adapter_messages.specs.Exchanges.{at_of, IsExchange}
use Rattle.adapter_messages.proofs.exchanging.exchange.Given as goal

abbrev pub invariant-loop-content : goal.invariant-loop-content
invariant-loop-content g l = record {
  begun : (came answers : List ℕ) × g.R.Source.brings l.initial.source came l.source × g.W.Sink.takes l.initial.output answers l.output × IsExchange g.A.Attend.holds_back g.A.Attend.attends came (at_of (g.A.Attend.state l.initial.attendant) l.initial.number) [] answers (at_of (g.A.Attend.state l.attendant) l.number);
  suits : g.A.Attend.suits l.attendant;
  source : g.R.Source.failed l.source ≡ g.R.Source.failed l.initial.source;
  output : g.W.Sink.failed l.output ≡ g.W.Sink.failed l.initial.output;
}

abbrev pub decreases-loop-content : goal.decreases-loop-content
decreases-loop-content g l = g.R.Source.calls l.source
