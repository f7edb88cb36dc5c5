-- The groups so far gave values.
use Rattle.integer_machine.proofs.Typed.{GroupsSoFar}
use Rattle.integer_machine.proofs.values.push_groups.Given as goal

abbrev pub invariant-loop-group : goal.invariant-loop-group
invariant-loop-group l = GroupsSoFar l.groups l.words l.group-index l.first l.initial.values.items l.values.items
