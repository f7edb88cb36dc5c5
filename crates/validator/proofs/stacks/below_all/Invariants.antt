use Rattle.std.proofs.Common.{◌≤◌, true, length, take}
use Rattle.validator.proofs.Popping.{PopsFrom}
use Rattle.validator.proofs.stacks.below_all.Given as goal

-- the types from the loop's place on are popped
abbrev pub invariant-loop-at : goal.invariant-loop-at
invariant-loop-at l = (l.left ≤ length l.operands) × PopsFrom l.at l.wants l.block.unreachable l.block.height true (take l.count l.operands) (take l.left l.operands)
