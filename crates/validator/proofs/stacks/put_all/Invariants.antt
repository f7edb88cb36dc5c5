use Rattle.std.proofs.Common.{◌≡◌, ◌++◌, reverse, take}
use Rattle.validator.specs.Walk.{known}
use Rattle.validator.proofs.stacks.put_all.Given as goal

-- the types as far as the loop has come are put
abbrev pub invariant-loop-give : goal.invariant-loop-give
invariant-loop-give l = reverse l.operands.items ≡ known (reverse (take l.give-index l.gives)) ++ reverse l.fn.operands.items
