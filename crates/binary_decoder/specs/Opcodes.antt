-- Opcodes. WebAssembly Core 1.0, binary format, instructions; threads proposal; sign-extension operators.
use Rattle.std.specs.Prelude.{ℕ, ◌+◌, ◌-◌, Option, Some, None, nat_le, nat_lt, slice_get, option_map, if◌then◌else◌, ◌==◌, ◌&&◌}
use Rattle.binary_decoder.specs.declared.opcodes.TheConstants.{NARROW_LOADS, NARROWS, COMPARISONS, UNARY, BINARY, ACCESSES}
use Rattle.wasm_types.specs.declared.value.ValType.{ValType}
use Rattle.wasm_types.specs.declared.value.ValType.TheVariants.{I32, I64}
use Rattle.wasm_types.specs.declared.instruction.Narrow.{Narrow}
use Rattle.wasm_types.specs.declared.instruction.Narrow.TheVariants.{I32Of8, I32Of16, I64Of8, I64Of16, I64Of32}
use Rattle.wasm_types.specs.declared.instruction.Extension.{Extension}
use Rattle.wasm_types.specs.declared.instruction.Extension.TheVariants.{Signed, Unsigned}
use Rattle.wasm_types.specs.declared.instruction.Comparison.{Comparison}
use Rattle.wasm_types.specs.declared.instruction.Comparison.TheVariants.{Equal, NotEqual, LessSigned, LessUnsigned, GreaterSigned, GreaterUnsigned, LessEqualSigned, LessEqualUnsigned, GreaterEqualSigned, GreaterEqualUnsigned}
use Rattle.wasm_types.specs.declared.instruction.UnaryOp.{UnaryOp}
use Rattle.wasm_types.specs.declared.instruction.UnaryOp.TheVariants.{LeadingZeros, TrailingZeros, CountOnes}
use Rattle.wasm_types.specs.declared.instruction.BinaryOp.{BinaryOp}
use Rattle.wasm_types.specs.declared.instruction.BinaryOp.TheVariants.{Add, Subtract, Multiply, DivideSigned, DivideUnsigned, RemainderSigned, RemainderUnsigned, And, Or, Xor, ShiftLeft, ShiftRightSigned, ShiftRightUnsigned, RotateLeft, RotateRight}
use Rattle.wasm_types.specs.declared.instruction.BlockKind.{BlockKind}
use Rattle.wasm_types.specs.declared.instruction.BlockKind.TheVariants.{Block, Loop, If}
use Rattle.wasm_types.specs.declared.instruction.IndexOp.{IndexOp}
use Rattle.wasm_types.specs.declared.instruction.IndexOp.TheVariants.{Branch, BranchIf, Call, LocalGet, LocalSet, LocalTee, GlobalGet, GlobalSet}
use Rattle.wasm_types.specs.declared.instruction.Plain.{Plain}
use Rattle.wasm_types.specs.declared.instruction.Plain.TheVariants.{Unreachable, Nop, Else, End, Return, Discard, Select}
use Rattle.wasm_types.specs.declared.instruction.PagesOp.{PagesOp}
use Rattle.wasm_types.specs.declared.instruction.PagesOp.TheVariants.{Size, Grow}
use Rattle.wasm_types.specs.declared.instruction.RmwOp.{RmwOp}
use Rattle.wasm_types.specs.declared.instruction.RmwOp.TheVariants as rmw
use Rattle.wasm_types.specs.declared.instruction.Access.{Access}
use Rattle.wasm_types.specs.declared.instruction.Access.TheVariants as access
use Rattle.wasm_types.specs.declared.instruction.Load.TheVariants as load
use Rattle.wasm_types.specs.declared.instruction.MemoryOp.{MemoryOp}
use Rattle.wasm_types.specs.declared.instruction.MemoryOp.TheVariants as mem
use Rattle.wasm_types.specs.declared.instruction.Numeric.{Numeric}
use Rattle.wasm_types.specs.declared.instruction.Numeric.TheVariants as num
use Rattle.wasm_types.specs.declared.instruction.AtomicOp.TheVariants as atomic
use Rattle.binary_decoder.specs.declared.opcodes.Opcode.{Opcode}
use Rattle.binary_decoder.specs.declared.opcodes.Opcode.TheVariants as op
use Rattle.binary_decoder.specs.declared.opcodes.AtomicCode.{AtomicCode}
use Rattle.binary_decoder.specs.declared.opcodes.AtomicCode.TheVariants as at

-- ---- the code of each instruction

-- instructions of one byte
abbrev pub plain_code : Plain → ℕ
plain_code Unreachable = 0x00
plain_code Nop = 0x01
plain_code Else = 0x05
plain_code End = 0x0B
plain_code Return = 0x0F
plain_code Discard = 0x1A
plain_code Select = 0x1B

-- instructions that open a block
abbrev pub block_code : BlockKind → ℕ
block_code Block = 0x02
block_code Loop = 0x03
block_code If = 0x04

-- instructions with one index
abbrev pub index_code : IndexOp → ℕ
index_code Branch = 0x0C
index_code BranchIf = 0x0D
index_code Call = 0x10
index_code LocalGet = 0x20
index_code LocalSet = 0x21
index_code LocalTee = 0x22
index_code GlobalGet = 0x23
index_code GlobalSet = 0x24

-- instructions on the size of the memory
abbrev pub pages_code : PagesOp → ℕ
pages_code Size = 0x3F
pages_code Grow = 0x40

-- constants
abbrev pub const_code : ValType → ℕ
const_code I32 = 0x41
const_code I64 = 0x42

-- places in a row of opcodes
abbrev pub narrow_number : Narrow → ℕ
narrow_number I32Of8 = 0
narrow_number I32Of16 = 1
narrow_number I64Of8 = 2
narrow_number I64Of16 = 3
narrow_number I64Of32 = 4

-- places in a row of opcodes
abbrev pub extension_number : Extension → ℕ
extension_number Signed = 0
extension_number Unsigned = 1

-- places in a row of opcodes
abbrev pub comparison_number : Comparison → ℕ
comparison_number Equal = 0
comparison_number NotEqual = 1
comparison_number LessSigned = 2
comparison_number LessUnsigned = 3
comparison_number GreaterSigned = 4
comparison_number GreaterUnsigned = 5
comparison_number LessEqualSigned = 6
comparison_number LessEqualUnsigned = 7
comparison_number GreaterEqualSigned = 8
comparison_number GreaterEqualUnsigned = 9

-- places in a row of opcodes
abbrev pub unary_number : UnaryOp → ℕ
unary_number LeadingZeros = 0
unary_number TrailingZeros = 1
unary_number CountOnes = 2

-- places in a row of opcodes
abbrev pub binary_number : BinaryOp → ℕ
binary_number Add = 0
binary_number Subtract = 1
binary_number Multiply = 2
binary_number DivideSigned = 3
binary_number DivideUnsigned = 4
binary_number RemainderSigned = 5
binary_number RemainderUnsigned = 6
binary_number And = 7
binary_number Or = 8
binary_number Xor = 9
binary_number ShiftLeft = 10
binary_number ShiftRightSigned = 11
binary_number ShiftRightUnsigned = 12
binary_number RotateLeft = 13
binary_number RotateRight = 14

-- places in a row of opcodes
abbrev pub access_number : Access → ℕ
access_number (access.Whole I32) = 0
access_number (access.Whole I64) = 1
access_number (access.Narrow narrow) = 2 + narrow_number narrow

-- places in a row of opcodes
abbrev pub narrow_load_number : Narrow × Extension → ℕ
narrow_load_number load = narrow_number load.0 + narrow_number load.0 + extension_number load.1

-- loads and stores
abbrev pub memory_code : MemoryOp → ℕ
memory_code (mem.Load (load.Whole I32)) = 0x28
memory_code (mem.Load (load.Whole I64)) = 0x29
memory_code (mem.Load (load.Narrow narrow extension)) = 0x2C + narrow_load_number (narrow, extension)
memory_code (mem.Store (access.Whole I32)) = 0x36
memory_code (mem.Store (access.Whole I64)) = 0x37
memory_code (mem.Store (access.Narrow narrow)) = 0x3A + narrow_number narrow

-- numeric instructions
abbrev pub numeric_code : Numeric → ℕ
numeric_code (num.IsZero I32) = 0x45
numeric_code (num.Compare I32 op) = 0x46 + comparison_number op
numeric_code (num.IsZero I64) = 0x50
numeric_code (num.Compare I64 op) = 0x51 + comparison_number op
numeric_code (num.Unary I32 op) = 0x67 + unary_number op
numeric_code (num.Binary I32 op) = 0x6A + binary_number op
numeric_code (num.Unary I64 op) = 0x79 + unary_number op
numeric_code (num.Binary I64 op) = 0x7C + binary_number op
numeric_code num.Wrap = 0xA7
numeric_code (num.Extend Signed) = 0xAC
numeric_code (num.Extend Unsigned) = 0xAD
numeric_code (num.ExtendLow narrow) = 0xC0 + narrow_number narrow

-- the first byte of an instruction
abbrev pub code : Opcode → ℕ
code (op.Plain i) = plain_code i
code (op.Numeric i) = numeric_code i
code (op.Block kind) = block_code kind
code (op.Index i) = index_code i
code op.BranchTable = 0x0E
code op.CallIndirect = 0x11
code (op.Memory i) = memory_code i
code (op.Pages i) = pages_code i
code (op.Const t) = const_code t
code op.Prefix = 0xFE

-- the first number in the row of a read-modify-write
abbrev pub rmw_row : RmwOp → ℕ
rmw_row rmw.Add = 0x1E
rmw_row rmw.Subtract = 0x25
rmw_row rmw.And = 0x2C
rmw_row rmw.Or = 0x33
rmw_row rmw.Xor = 0x3A
rmw_row rmw.Exchange = 0x41

-- the number behind the prefix
abbrev pub atomic_number : AtomicCode → ℕ
atomic_number (at.Op atomic.Notify) = 0x00
atomic_number (at.Op (atomic.Wait I32)) = 0x01
atomic_number (at.Op (atomic.Wait I64)) = 0x02
atomic_number at.Fence = 0x03
atomic_number (at.Op (atomic.Load a)) = 0x10 + access_number a
atomic_number (at.Op (atomic.Store a)) = 0x17 + access_number a
atomic_number (at.Op (atomic.Rmw kind a)) = rmw_row kind + access_number a
atomic_number (at.Op (atomic.CompareExchange a)) = 0x48 + access_number a

-- ---- which instruction a code is

unfoldable pub control_at : ℕ → Option Opcode
control_at c =
    if c == 0x00 then Some (op.Plain Unreachable) else (
    if c == 0x01 then Some (op.Plain Nop) else (
    if c == 0x02 then Some (op.Block Block) else (
    if c == 0x03 then Some (op.Block Loop) else (
    if c == 0x04 then Some (op.Block If) else (
    if c == 0x05 then Some (op.Plain Else) else (
    if c == 0x0B then Some (op.Plain End) else (
    if c == 0x0C then Some (op.Index Branch) else (
    if c == 0x0D then Some (op.Index BranchIf) else (
    if c == 0x0E then Some op.BranchTable else (
    if c == 0x0F then Some (op.Plain Return) else (
    if c == 0x10 then Some (op.Index Call) else (
    if c == 0x11 then Some op.CallIndirect else (
    if c == 0x1A then Some (op.Plain Discard) else (
    if c == 0x1B then Some (op.Plain Select) else None))))))))))))))

unfoldable pub memory_at : ℕ → Option Opcode
memory_at c =
    if c == 0x20 then Some (op.Index LocalGet) else (
    if c == 0x21 then Some (op.Index LocalSet) else (
    if c == 0x22 then Some (op.Index LocalTee) else (
    if c == 0x23 then Some (op.Index GlobalGet) else (
    if c == 0x24 then Some (op.Index GlobalSet) else (
    if c == 0x28 then Some (op.Memory (mem.Load (load.Whole I32))) else (
    if c == 0x29 then Some (op.Memory (mem.Load (load.Whole I64))) else (
    if nat_le 0x2C c && nat_le c 0x35 then option_map (λ l. op.Memory (mem.Load (load.Narrow l.0 l.1))) (slice_get NARROW_LOADS (c - 0x2C)) else (
    if c == 0x36 then Some (op.Memory (mem.Store (access.Whole I32))) else (
    if c == 0x37 then Some (op.Memory (mem.Store (access.Whole I64))) else (
    if nat_le 0x3A c && nat_le c 0x3E then option_map (λ n. op.Memory (mem.Store (access.Narrow n))) (slice_get NARROWS (c - 0x3A)) else (
    if c == 0x3F then Some (op.Pages Size) else (
    if c == 0x40 then Some (op.Pages Grow) else (
    if c == 0x41 then Some (op.Const I32) else (
    if c == 0x42 then Some (op.Const I64) else None))))))))))))))

unfoldable pub numeric_at : ℕ → Option Opcode
numeric_at c =
    if c == 0x45 then Some (op.Numeric (num.IsZero I32)) else (
    if nat_le 0x46 c && nat_le c 0x4F then option_map (λ o. op.Numeric (num.Compare I32 o)) (slice_get COMPARISONS (c - 0x46)) else (
    if c == 0x50 then Some (op.Numeric (num.IsZero I64)) else (
    if nat_le 0x51 c && nat_le c 0x5A then option_map (λ o. op.Numeric (num.Compare I64 o)) (slice_get COMPARISONS (c - 0x51)) else (
    if nat_le 0x67 c && nat_le c 0x69 then option_map (λ o. op.Numeric (num.Unary I32 o)) (slice_get UNARY (c - 0x67)) else (
    if nat_le 0x6A c && nat_le c 0x78 then option_map (λ o. op.Numeric (num.Binary I32 o)) (slice_get BINARY (c - 0x6A)) else (
    if nat_le 0x79 c && nat_le c 0x7B then option_map (λ o. op.Numeric (num.Unary I64 o)) (slice_get UNARY (c - 0x79)) else (
    if nat_le 0x7C c && nat_le c 0x8A then option_map (λ o. op.Numeric (num.Binary I64 o)) (slice_get BINARY (c - 0x7C)) else (
    if c == 0xA7 then Some (op.Numeric num.Wrap) else (
    if c == 0xAC then Some (op.Numeric (num.Extend Signed)) else (
    if c == 0xAD then Some (op.Numeric (num.Extend Unsigned)) else (
    if nat_le 0xC0 c && nat_le c 0xC4 then option_map (λ n. op.Numeric (num.ExtendLow n)) (slice_get NARROWS (c - 0xC0)) else (
    if c == 0xFE then Some op.Prefix else None))))))))))))

unfoldable pub opcode_at : ℕ → Option Opcode
opcode_at c = if nat_lt c 0x20 then control_at c else (if nat_lt c 0x45 then memory_at c else numeric_at c)

unfoldable pub atomic_at : ℕ → Option AtomicCode
atomic_at c =
    if c == 0x00 then Some (at.Op atomic.Notify) else (
    if c == 0x01 then Some (at.Op (atomic.Wait I32)) else (
    if c == 0x02 then Some (at.Op (atomic.Wait I64)) else (
    if c == 0x03 then Some at.Fence else (
    if nat_le 0x10 c && nat_le c 0x16 then option_map (λ a. at.Op (atomic.Load a)) (slice_get ACCESSES (c - 0x10)) else (
    if nat_le 0x17 c && nat_le c 0x1D then option_map (λ a. at.Op (atomic.Store a)) (slice_get ACCESSES (c - 0x17)) else (
    if nat_le 0x1E c && nat_le c 0x24 then option_map (λ a. at.Op (atomic.Rmw rmw.Add a)) (slice_get ACCESSES (c - 0x1E)) else (
    if nat_le 0x25 c && nat_le c 0x2B then option_map (λ a. at.Op (atomic.Rmw rmw.Subtract a)) (slice_get ACCESSES (c - 0x25)) else (
    if nat_le 0x2C c && nat_le c 0x32 then option_map (λ a. at.Op (atomic.Rmw rmw.And a)) (slice_get ACCESSES (c - 0x2C)) else (
    if nat_le 0x33 c && nat_le c 0x39 then option_map (λ a. at.Op (atomic.Rmw rmw.Or a)) (slice_get ACCESSES (c - 0x33)) else (
    if nat_le 0x3A c && nat_le c 0x40 then option_map (λ a. at.Op (atomic.Rmw rmw.Xor a)) (slice_get ACCESSES (c - 0x3A)) else (
    if nat_le 0x41 c && nat_le c 0x47 then option_map (λ a. at.Op (atomic.Rmw rmw.Exchange a)) (slice_get ACCESSES (c - 0x41)) else (
    if nat_le 0x48 c && nat_le c 0x4E then option_map (λ a. at.Op (atomic.CompareExchange a)) (slice_get ACCESSES (c - 0x48)) else None))))))))))))
