-- none of the instructions so far stands there
use Rattle.adapter.specs.InstructionBreaks.{FindsIn}
use Rattle.std.proofs.Common.{None}
use Rattle.adapter.proofs.instruction_breaks.find_in.Given as goal

abbrev pub invariant-loop-instruction : goal.invariant-loop-instruction
invariant-loop-instruction l = FindsIn l.code l.function l.instruction l.offset None
