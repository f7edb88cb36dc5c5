-- Nothing was taken so far.
use Rattle.std.proofs.Common.{◌-◌, ◌≡◌, ◌≤◌, []}
use Rattle.std.specs.Io.KnownBytes.{Appends}
use Rattle.byte_streams.proofs.standard_sink.StandardSink.answered.Given as goal

abbrev pub invariant-loop-self : goal.invariant-loop-self
invariant-loop-self g l = record {
  taken : Appends (g.W.Write.contents l.initial.self.stream) (g.W.Write.contents l.self.stream) [];
  failures : l.self.failures ≡ l.initial.self.failures;
  made : l.initial.self.made ≤ l.self.made;
}

abbrev pub decreases-loop-self : goal.decreases-loop-self
decreases-loop-self g l = 18446744073709551615 - l.self.made
