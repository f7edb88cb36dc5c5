use Rattle.validator.proofs.Ruled.{TypedSoFar}
use Rattle.validator.proofs.valid.check_functions.Given as goal

abbrev pub invariant-loop-function : goal.invariant-loop-function
invariant-loop-function l = TypedSoFar l.module l.targets.items l.function
