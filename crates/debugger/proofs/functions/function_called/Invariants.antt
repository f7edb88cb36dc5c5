-- none of the functions so far is called so
use Rattle.debugger.specs.Functions.{NoneCalled}
use Rattle.debugger.proofs.functions.function_called.Given as goal

abbrev pub invariant-loop-function : goal.invariant-loop-function
invariant-loop-function l = NoneCalled l.valid.source l.word l.function
