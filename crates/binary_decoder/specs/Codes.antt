-- The code by which an instruction is spelled: its first byte, or the number behind the prefix.
use Rattle.binary_decoder.specs.declared.cause.OpCode.{OpCode}
use Rattle.binary_decoder.specs.declared.cause.OpCode.TheVariants as code_is
use Rattle.wasm_types.specs.declared.instruction.Instr.{Instr}
use Rattle.wasm_types.specs.declared.instruction.Instr.TheVariants.{Atomic, Fence}
use Rattle.binary_decoder.specs.declared.opcodes.AtomicCode.TheVariants as at
use Rattle.binary_decoder.specs.Opcodes.{code, atomic_number}
use Rattle.binary_decoder.specs.Grammar.{opcode_of}

abbrev pub code_of : Instr → OpCode
code_of (Atomic i a) = code_is.Atomic (atomic_number (at.Op i))
code_of Fence = code_is.Atomic (atomic_number at.Fence)
code_of i = code_is.Byte (code (opcode_of i))
