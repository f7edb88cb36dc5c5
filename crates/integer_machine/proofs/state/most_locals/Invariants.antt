-- No function so far declares more.
use Rattle.std.proofs.Common.{take}
use Rattle.integer_machine.specs.Sound.{HasMostOf}
use Rattle.integer_machine.proofs.state.most_locals.Given as goal

abbrev pub invariant-loop-body : goal.invariant-loop-body
invariant-loop-body l = HasMostOf (take l.body-index l.bodies) l.most
