-- Nothing was brought so far, and the buffer keeps its length.
use Rattle.std.proofs.Common.{◌-◌, ◌≡◌, ◌≤◌, [], length}
use Rattle.std.specs.Io.KnownBytes.{Consumes}
use Rattle.byte_streams.proofs.standard_source.StandardSource.answered.Given as goal

abbrev pub invariant-loop-self : goal.invariant-loop-self
invariant-loop-self g l = record {
  brought : Consumes (g.R.Read.remaining l.initial.self.stream) (g.R.Read.remaining l.self.stream) [];
  failures : l.self.failures ≡ l.initial.self.failures;
  made : l.initial.self.made ≤ l.self.made;
  buffer : length l.buffer ≡ length l.initial.buffer;
}

abbrev pub decreases-loop-self : goal.decreases-loop-self
decreases-loop-self g l = 18446744073709551615 - l.self.made
