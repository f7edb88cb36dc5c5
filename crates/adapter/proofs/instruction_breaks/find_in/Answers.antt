use Rattle.std.proofs.Common.{inl, inr, arith, sym, ap, ◌∙◌}
use Rattle.adapter.specs.Code.{offset_at}
use Rattle.adapter.proofs.References.{below_or_at, differs}
use Rattle.adapter.proofs.instruction_breaks.find_in.Goals as goal

pub loop-instruction-preserved : goal.loop-instruction-preserved
loop-instruction-preserved c = λ n lt fits is. elim (below_or_at n c.loop-instruction.instruction lt) [
  | inl less ↦ c.loop-instruction.invariant n less fits is
  | inr same ↦ differs c.offset.result c.args.offset (sym c.eq.ensures ∙ c.if-eq.false) (c.offset.ensures ∙ ap (λ k. offset_at c.args.code.now (record { function = c.args.function; instruction = k })) (sym same) ∙ is)
]

pub returns : goal.returns
returns c = λ n lt fits is. c.loop-instruction.invariant n (omega (arith, lt, fits, c.loop-instruction-test.false, c.min-instruction-end.ensures)) fits is
