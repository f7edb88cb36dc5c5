-- the operands so far are written
use Rattle.std.proofs.Common.{◌≡◌, ◌++◌, reverse, take}
use Rattle.std.specs.Prelude.{string_bytes}
use Rattle.debugger.specs.Locals.{lines_of, operand_line}
use Rattle.debugger.proofs.locals.write_operands.Given as goal

abbrev pub invariant-loop-number : goal.invariant-loop-number
invariant-loop-number l = string_bytes l.text ≡ string_bytes l.initial.text ++ lines_of operand_line (take l.number (reverse l.words))
