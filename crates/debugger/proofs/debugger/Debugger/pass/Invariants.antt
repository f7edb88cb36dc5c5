-- so many breaks were passed
use Rattle.std.proofs.Common.{◌≡◌}
use Rattle.debugger.specs.At.{at_of}
use Rattle.debugger.specs.Replies.{Passed}
use Rattle.debugger.proofs.debugger.Debugger.pass.Given as goal

abbrev pub invariant-loop : goal.invariant-loop
invariant-loop l = record {
  passed : Passed l.counter (at_of l.initial.self) (at_of l.self);
  opens : l.self.session.replay.opens ≡ l.initial.self.session.replay.opens;
}
