-- Traps by their numbers: 1 to 7 are those of WebAssembly Core 1.0, 8 its exhausted call stack, 9 and 10 those of the
-- threads proposal.
use Rattle.std.specs.Prelude.{ℕ}
use Rattle.wasm_types.specs.declared.trap.Trap.{Trap}
use Rattle.wasm_types.specs.declared.trap.Trap.TheVariants.{Unreachable, DivideByZero, IntegerOverflow, OutOfBounds, TypeMismatch, UndefinedElement, UninitializedElement, StackExhausted, UnalignedAtomic, MemoryNotShared}

abbrev pub trap_number : Trap → ℕ
trap_number Unreachable = 1
trap_number DivideByZero = 2
trap_number IntegerOverflow = 3
trap_number OutOfBounds = 4
trap_number TypeMismatch = 5
trap_number UndefinedElement = 6
trap_number UninitializedElement = 7
trap_number StackExhausted = 8
trap_number UnalignedAtomic = 9
trap_number MemoryNotShared = 10
