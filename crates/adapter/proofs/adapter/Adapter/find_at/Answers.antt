use Rattle.std.proofs.Common.{ℕ, None, inl, inr, rules, ◌∙◌, subst}
use Rattle.adapter.specs.InstructionBreaks.{FindsIn}
use Rattle.adapter.proofs.References.{below_or_at, none_in}
use Rattle.adapter.proofs.adapter.Adapter.find_at.Goals as goal

pub loop-function-preserved : goal.loop-function-preserved
loop-function-preserved c = λ k lt p e stands. elim (below_or_at k c.loop-function.function lt) [
  | inl less ↦ c.loop-function.invariant k less p e stands
  | inr same ↦ none_in c.args.self.now.debugger.valid.now c.args.self.now.code c.loop-function.function c.args.offset c.requires.code
      (subst (λ (k : ℕ). FindsIn c.args.self.now.code c.loop-function.function k c.args.offset None) (search rules) c.in_default.ensures) p (e ∙ same) stands
]
