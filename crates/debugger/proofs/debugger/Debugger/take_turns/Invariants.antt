use Rattle.std.proofs.Common.{◌≡◌, drop}
use Rattle.debugger.specs.At.{at_of, IsOpenedAs}
use Rattle.debugger.specs.Orders.{after_turns}
use Rattle.debugger.proofs.debugger.Debugger.take_turns.Given as goal

abbrev pub invariant-loop-thread : goal.invariant-loop-thread
invariant-loop-thread l = record {
  opens : IsOpenedAs l.fn.self l.self;
  rest : after_turns (at_of l.self) (drop l.thread-index l.order) ≡ after_turns (at_of l.fn.self) l.order;
}
