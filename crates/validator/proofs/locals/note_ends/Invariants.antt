use Rattle.std.proofs.Common.{◌≡◌, ◌++◌, drop}
use Rattle.validator.specs.Ends.{ends_from}
use Rattle.validator.proofs.locals.note_ends.Given as goal

abbrev pub invariant-loop-group : goal.invariant-loop-group
invariant-loop-group l = l.ends.items ++ ends_from l.end (drop l.group-index l.groups) ≡ ends_from 0 l.groups
