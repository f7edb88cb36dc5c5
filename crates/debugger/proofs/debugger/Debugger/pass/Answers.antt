use Rattle.std.proofs.Common.{inl, inr, ◌∙◌}
use Rattle.debugger.specs.At.{at_of}
use Rattle.debugger.proofs.Pausing.{passed_more}
use Rattle.debugger.proofs.debugger.Debugger.pass.Goals as goal

pub loop-preserved : goal.loop-preserved
loop-preserved c = record {
  passed = elim c.in-Met.ensures.runs [
    | inl r ↦ passed_more c.loop.counter (at_of c.args.self.now) (at_of c.loop.self) (at_of c.run_or_want.new.self) c.in-Met.field-0 c.loop.invariant.passed r
    | inr w ↦ absurd (cc (w.1))
  ];
  opens = c.run_or_want.ensures.opens ∙ c.loop.invariant.opens;
}
