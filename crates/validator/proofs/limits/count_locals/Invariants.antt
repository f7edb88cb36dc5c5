use Rattle.std.proofs.Common.{take}
use Rattle.validator.proofs.Small.{Counted}
use Rattle.validator.proofs.limits.count_locals.Given as goal

-- the locals of the groups so far are counted
abbrev pub invariant-loop-group : goal.invariant-loop-group
invariant-loop-group l = Counted l.count l.params (take l.group-index l.groups)
