use Rattle.validator.specs.Context.{context_of}
use Rattle.validator.proofs.Walking.{Reached}
use Rattle.validator.proofs.function.check_function.Given as goal

abbrev pub invariant-loop-at : goal.invariant-loop-at
invariant-loop-at l = Reached (context_of l.module l.kind l.body) l.body.code l.at l.stacks
