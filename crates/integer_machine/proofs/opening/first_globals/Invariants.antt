-- The globals so far are given.
use Rattle.integer_machine.proofs.Beginning.{GlobalsGiven}
use Rattle.integer_machine.proofs.opening.first_globals.Given as goal

abbrev pub invariant-loop-global : goal.invariant-loop-global
invariant-loop-global l = GlobalsGiven l.global-index l.module.globals l.words.items
