-- the operands so far are told
use Rattle.std.proofs.Common.{◌≡◌, reverse, take}
use Rattle.adapter.specs.Numbered.{numbered}
use Rattle.adapter.specs.Variables.{operand_item}
use Rattle.adapter.proofs.variables.operands_of.Given as goal

abbrev pub invariant-loop-number : goal.invariant-loop-number
invariant-loop-number l = l.items ≡ numbered operand_item 0 (take l.number (reverse l.words))
