-- The binary format of modules, as far as the integer profile goes. WebAssembly Core 1.0, binary format; threads proposal;
-- sign-extension operators. It knows no limits.
use Rattle.std.specs.Prelude.{◌≡◌, ℕ, ℤ, Bool, true, false, List, [], ◌∷◌, ◌++◌, length, Option, Some, None, is_some, ◌⊎◌}
use Rattle.std.specs.Int.{w32, w64, cast_unsigned}
use Rattle.binary_decoder.specs.Language.{Language, nothing, anything, byte, exactly, ◌⨾◌, each, u32, s32, s64, vector, byte_vector, name, sized}
use Rattle.wasm_types.specs.Nesting.{Nests}
use Rattle.binary_decoder.specs.Opcodes.{const_code, code, atomic_number}
use Rattle.wasm_types.specs.declared.value.ValType.{ValType}
use Rattle.wasm_types.specs.declared.value.ValType.TheVariants.{I32, I64}
use Rattle.wasm_types.specs.declared.value.Value.{Value}
use Rattle.wasm_types.specs.declared.value.Value.TheVariants as value
use Rattle.wasm_types.specs.declared.instruction.MemArg.{MemArg}
use Rattle.wasm_types.specs.declared.instruction.Instr.{Instr}
use Rattle.wasm_types.specs.declared.instruction.Instr.TheVariants.{Plain, Numeric, Block, Index, BranchTable, CallIndirect, Memory, Pages, Const, Atomic, Fence}
use Rattle.wasm_types.specs.declared.modules.FuncType.{FuncType}
use Rattle.wasm_types.specs.declared.modules.Limits.{Limits}
use Rattle.wasm_types.specs.declared.modules.MemoryType.{MemoryType}
use Rattle.wasm_types.specs.declared.modules.Import.{Import}
use Rattle.wasm_types.specs.declared.modules.Global.{Global}
use Rattle.wasm_types.specs.declared.modules.ExportKind.{ExportKind}
use Rattle.wasm_types.specs.declared.modules.ExportKind.TheVariants as kind
use Rattle.wasm_types.specs.declared.modules.Export.{Export}
use Rattle.wasm_types.specs.declared.modules.Element.{Element}
use Rattle.wasm_types.specs.declared.modules.LocalGroup.{LocalGroup}
use Rattle.wasm_types.specs.declared.modules.Body.{Body}
use Rattle.wasm_types.specs.declared.modules.Data.{Data}
use Rattle.wasm_types.specs.declared.modules.Module.{Module}
use Rattle.binary_decoder.specs.declared.opcodes.Opcode.{Opcode}
use Rattle.binary_decoder.specs.declared.opcodes.Opcode.TheVariants as op
use Rattle.binary_decoder.specs.declared.opcodes.AtomicCode.TheVariants as at

-- ---- types

abbrev pub val_type_code : ValType → ℕ
val_type_code I32 = 0x7F
val_type_code I64 = 0x7E

abbrev pub val_type : ValType → Language
val_type t = byte (val_type_code t)

abbrev pub func_type : FuncType → Language
func_type f = byte 0x60 ⨾ vector val_type f.params ⨾ vector val_type f.results

-- no result, or one
abbrev pub block_type_code : Option ValType → ℕ
block_type_code None = 0x40
block_type_code (Some t) = val_type_code t

abbrev pub block_type : Option ValType → Language
block_type t = byte (block_type_code t)

-- the least size, and the greatest one where there is one
abbrev pub sizes : ℕ → Option ℕ → Language
sizes minimum None = u32 minimum
sizes minimum (Some maximum) = u32 minimum ⨾ u32 maximum

-- the flag says whether there is a greatest size
abbrev pub limits_flag : Bool → ℕ
limits_flag false = 0x00
limits_flag true = 0x01

abbrev pub limits : Limits → Language
limits l = byte (limits_flag (is_some l.maximum)) ⨾ sizes l.minimum l.maximum

abbrev pub table_type : Limits → Language
table_type l = byte 0x70 ⨾ limits l

-- the flag says whether there is a greatest size, and whether the memory is shared
abbrev pub memory_flag : Bool × Bool → ℕ
memory_flag (false, false) = 0x00
memory_flag (true, false) = 0x01
memory_flag (false, true) = 0x02
memory_flag (true, true) = 0x03

-- a shared memory has a greatest size
abbrev pub memory_sizes : MemoryType → Language
memory_sizes m text = (m.shared ≡ true → is_some m.limits.maximum ≡ true) × sizes m.limits.minimum m.limits.maximum text

abbrev pub memory_type : MemoryType → Language
memory_type m = byte (memory_flag (is_some m.limits.maximum, m.shared)) ⨾ memory_sizes m

-- ---- constants

abbrev pub value_type : Value → ValType
value_type (value.I32 bits) = I32
value_type (value.I64 bits) = I64

-- a constant's bits, which are spelled as a signed number
abbrev pub constant : Value → Language
constant (value.I32 bits) text = (z : ℤ) × s32 z text × (bits ≡ cast_unsigned w32 z)
constant (value.I64 bits) text = (z : ℤ) × s64 z text × (bits ≡ cast_unsigned w64 z)

-- a constant expression
abbrev pub const_expr : Value → Language
const_expr v = byte (const_code (value_type v)) ⨾ constant v ⨾ byte 0x0B

-- ---- instructions: an opcode, and its operands

abbrev pub mem_arg : MemArg → Language
mem_arg a = u32 a.align ⨾ u32 a.offset

abbrev pub opcode_of : Instr → Opcode
opcode_of (Plain i) = op.Plain i
opcode_of (Numeric i) = op.Numeric i
opcode_of (Block k t) = op.Block k
opcode_of (Index i n) = op.Index i
opcode_of (BranchTable range default) = op.BranchTable
opcode_of (CallIndirect t) = op.CallIndirect
opcode_of (Memory i a) = op.Memory i
opcode_of (Pages i) = op.Pages i
opcode_of (Const v) = op.Const (value_type v)
opcode_of (Atomic i a) = op.Prefix
opcode_of Fence = op.Prefix

-- the operands of an instruction, with the labels of the body's branch tables before and after it
abbrev pub operands : List ℕ → Instr → List ℕ → Language
operands before (BranchTable range default) after text =
    (labels : List ℕ) × (after ≡ before ++ labels) × (range.first ≡ length before) × (range.count ≡ length labels) × (vector u32 labels ⨾ u32 default) text
operands before (Plain i) after text = (after ≡ before) × nothing text
operands before (Numeric i) after text = (after ≡ before) × nothing text
operands before (Block k t) after text = (after ≡ before) × block_type t text
operands before (Index i n) after text = (after ≡ before) × u32 n text
operands before (CallIndirect t) after text = (after ≡ before) × (u32 t ⨾ byte 0x00) text
operands before (Memory i a) after text = (after ≡ before) × mem_arg a text
operands before (Pages i) after text = (after ≡ before) × byte 0x00 text
operands before (Const v) after text = (after ≡ before) × constant v text
operands before (Atomic i a) after text = (after ≡ before) × (u32 (atomic_number (at.Op i)) ⨾ mem_arg a) text
operands before Fence after text = (after ≡ before) × (u32 (atomic_number at.Fence) ⨾ byte 0x00) text

abbrev pub instr : List ℕ → Instr → List ℕ → Language
instr before i after = byte (code (opcode_of i)) ⨾ operands before i after

-- instructions in turn, with the labels before and after them
abbrev pub instrs : List ℕ → List Instr → List ℕ → Language
instrs before [] after text = (after ≡ before) × nothing text
instrs before (i ∷ is) after text = (between : List ℕ) × (instr before i between ⨾ instrs between is after) text

-- instructions that nest, the last end included, and all their labels
abbrev pub expr : List Instr → List ℕ → Language
expr code labels text = Nests code × instrs [] code labels text

-- ---- functions

-- so many locals of one type
abbrev pub group : LocalGroup → Language
group g = u32 g.count ⨾ val_type g.val_type

abbrev pub locals : List LocalGroup → Language
locals = vector group

abbrev pub body : Body → Language
body b = sized (locals b.locals ⨾ expr b.code b.labels)

-- ---- what sections hold

abbrev pub import : Import → Language
import i = name i.module ⨾ name i.name ⨾ byte 0x02 ⨾ memory_type i.memory

abbrev pub mutability : Bool → ℕ
mutability false = 0x00
mutability true = 0x01

abbrev pub global : Global → Language
global g = val_type g.val_type ⨾ byte (mutability g.mutable) ⨾ const_expr g.value

abbrev pub export_code : ExportKind → ℕ
export_code kind.Function = 0x00
export_code kind.Table = 0x01
export_code kind.Memory = 0x02
export_code kind.Global = 0x03

abbrev pub export : Export → Language
export e = name e.name ⨾ byte (export_code e.kind) ⨾ u32 e.index

abbrev pub start : Option ℕ → Language
start None text = ⊥
start (Some function) text = u32 function text

abbrev pub element : Element → Language
element e = u32 e.table ⨾ const_expr e.offset ⨾ vector u32 e.functions

abbrev pub data_segment : Data → Language
data_segment d = u32 d.memory ⨾ const_expr d.offset ⨾ byte_vector d.bytes

-- ---- modules

-- a section of this id, or none
abbrev pub section : {X : Type 0} → ℕ → X → (X → Language) → X → Language
section id none content x text = ((x ≡ none) × nothing text) ⊎ (byte id ⨾ sized (content x)) text

-- as many bodies as functions
abbrev pub code_section : List ℕ → List Body → Language
code_section functions bodies text = (length bodies ≡ length functions) × section 10 [] (vector body) bodies text

-- a name, and any bytes
abbrev pub custom : List ℕ → Language
custom title = byte 0 ⨾ sized (name title ⨾ anything)

-- any custom sections
abbrev pub customs : Language
customs text = (titles : List (List ℕ)) × each custom titles text

abbrev pub preamble : List ℕ
preamble = 0x00 ∷ 0x61 ∷ 0x73 ∷ 0x6D ∷ 0x01 ∷ 0x00 ∷ 0x00 ∷ 0x00 ∷ []

abbrev pub sections : Module → Language
sections m =
    customs ⨾ section 1 [] (vector func_type) m.types ⨾
    customs ⨾ section 2 [] (vector import) m.imports ⨾
    customs ⨾ section 3 [] (vector u32) m.functions ⨾
    customs ⨾ section 4 [] (vector table_type) m.tables ⨾
    customs ⨾ section 5 [] (vector memory_type) m.memories ⨾
    customs ⨾ section 6 [] (vector global) m.globals ⨾
    customs ⨾ section 7 [] (vector export) m.exports ⨾
    customs ⨾ section 8 None start m.start ⨾
    customs ⨾ section 9 [] (vector element) m.elements ⨾
    customs ⨾ code_section m.functions m.bodies ⨾
    customs ⨾ section 11 [] (vector data_segment) m.data ⨾
    customs

-- the bytes are those of the module
pub record Spells (m : Module) (bytes : List ℕ) : Type 0 where
  pub source : m.source ≡ bytes
  pub spelled : (exactly preamble ⨾ sections m) bytes
