-- Instructions in the text format: WebAssembly Core 1.0, 6.5 "Instructions", 6.4.3 "Values" ("i32.const -5"); threads proposal,
-- "Atomic Memory Instructions"; sign-extension operators. What has its usual value there, an offset 0 or the natural alignment,
-- is left out.
use Rattle.std.specs.Prelude.{ℕ, ◌^◌, ◌==◌, nat_le, List, [], ◌++◌, Option, Some, None, codes, drop, take, if◌then◌else◌}
use Rattle.std.specs.Int.{w32, w64, cast_signed}
use Rattle.std.specs.Fmt.{decimal, signed_decimal}
use Rattle.std.specs.List.{flat_map}
use Rattle.wasm_types.specs.Accesses.{access_exponent, access_type, atomic_exponent, load_access, narrow_type}
use Rattle.wasm_types.specs.declared.value.ValType.{ValType}
use Rattle.wasm_types.specs.declared.value.ValType.TheVariants.{I32, I64}
use Rattle.wasm_types.specs.declared.value.Value.{Value}
use Rattle.wasm_types.specs.declared.value.Value.TheVariants as value
use Rattle.wasm_types.specs.declared.instruction.Access.{Access}
use Rattle.wasm_types.specs.declared.instruction.Access.TheVariants as access
use Rattle.wasm_types.specs.declared.instruction.AtomicOp.{AtomicOp}
use Rattle.wasm_types.specs.declared.instruction.AtomicOp.TheVariants as atomic
use Rattle.wasm_types.specs.declared.instruction.BinaryOp.{BinaryOp}
use Rattle.wasm_types.specs.declared.instruction.BinaryOp.TheVariants as binary
use Rattle.wasm_types.specs.declared.instruction.BlockKind.{BlockKind}
use Rattle.wasm_types.specs.declared.instruction.BlockKind.TheVariants as kind
use Rattle.wasm_types.specs.declared.instruction.Comparison.{Comparison}
use Rattle.wasm_types.specs.declared.instruction.Comparison.TheVariants as comparison
use Rattle.wasm_types.specs.declared.instruction.Extension.{Extension}
use Rattle.wasm_types.specs.declared.instruction.Extension.TheVariants.{Signed, Unsigned}
use Rattle.wasm_types.specs.declared.instruction.IndexOp.{IndexOp}
use Rattle.wasm_types.specs.declared.instruction.IndexOp.TheVariants as index
use Rattle.wasm_types.specs.declared.instruction.Instr.{Instr}
use Rattle.wasm_types.specs.declared.instruction.Instr.TheVariants as instr
use Rattle.wasm_types.specs.declared.instruction.LabelRange.{LabelRange}
use Rattle.wasm_types.specs.declared.instruction.Load.{Load}
use Rattle.wasm_types.specs.declared.instruction.Load.TheVariants as load
use Rattle.wasm_types.specs.declared.instruction.MemArg.{MemArg}
use Rattle.wasm_types.specs.declared.instruction.MemoryOp.{MemoryOp}
use Rattle.wasm_types.specs.declared.instruction.MemoryOp.TheVariants as memory
use Rattle.wasm_types.specs.declared.instruction.Narrow.{Narrow}
use Rattle.wasm_types.specs.declared.instruction.Narrow.TheVariants.{I32Of8, I32Of16, I64Of8, I64Of16, I64Of32}
use Rattle.wasm_types.specs.declared.instruction.Numeric.{Numeric}
use Rattle.wasm_types.specs.declared.instruction.Numeric.TheVariants as numeric
use Rattle.wasm_types.specs.declared.instruction.PagesOp.{PagesOp}
use Rattle.wasm_types.specs.declared.instruction.PagesOp.TheVariants as pages
use Rattle.wasm_types.specs.declared.instruction.Plain.{Plain}
use Rattle.wasm_types.specs.declared.instruction.Plain.TheVariants as plain
use Rattle.wasm_types.specs.declared.instruction.RmwOp.{RmwOp}
use Rattle.wasm_types.specs.declared.instruction.RmwOp.TheVariants as rmw
use Rattle.wasm_types.specs.declared.instruction.UnaryOp.{UnaryOp}
use Rattle.wasm_types.specs.declared.instruction.UnaryOp.TheVariants as unary

-- ---- parts of names

abbrev pub type_name : ValType → List ℕ
type_name I32 = codes "i32"
type_name I64 = codes "i64"

abbrev pub sign_name : Extension → List ℕ
sign_name Signed = codes "_s"
sign_name Unsigned = codes "_u"

abbrev pub narrow_name : Narrow → List ℕ
narrow_name I32Of8 = codes "8"
narrow_name I32Of16 = codes "16"
narrow_name I64Of8 = codes "8"
narrow_name I64Of16 = codes "16"
narrow_name I64Of32 = codes "32"

abbrev pub unary_name : UnaryOp → List ℕ
unary_name unary.LeadingZeros = codes "clz"
unary_name unary.TrailingZeros = codes "ctz"
unary_name unary.CountOnes = codes "popcnt"

abbrev pub comparison_name : Comparison → List ℕ
comparison_name comparison.Equal = codes "eq"
comparison_name comparison.NotEqual = codes "ne"
comparison_name comparison.LessSigned = codes "lt_s"
comparison_name comparison.LessUnsigned = codes "lt_u"
comparison_name comparison.GreaterSigned = codes "gt_s"
comparison_name comparison.GreaterUnsigned = codes "gt_u"
comparison_name comparison.LessEqualSigned = codes "le_s"
comparison_name comparison.LessEqualUnsigned = codes "le_u"
comparison_name comparison.GreaterEqualSigned = codes "ge_s"
comparison_name comparison.GreaterEqualUnsigned = codes "ge_u"

abbrev pub binary_name : BinaryOp → List ℕ
binary_name binary.Add = codes "add"
binary_name binary.Subtract = codes "sub"
binary_name binary.Multiply = codes "mul"
binary_name binary.DivideSigned = codes "div_s"
binary_name binary.DivideUnsigned = codes "div_u"
binary_name binary.RemainderSigned = codes "rem_s"
binary_name binary.RemainderUnsigned = codes "rem_u"
binary_name binary.And = codes "and"
binary_name binary.Or = codes "or"
binary_name binary.Xor = codes "xor"
binary_name binary.ShiftLeft = codes "shl"
binary_name binary.ShiftRightSigned = codes "shr_s"
binary_name binary.ShiftRightUnsigned = codes "shr_u"
binary_name binary.RotateLeft = codes "rotl"
binary_name binary.RotateRight = codes "rotr"

abbrev pub rmw_name : RmwOp → List ℕ
rmw_name rmw.Add = codes "add"
rmw_name rmw.Subtract = codes "sub"
rmw_name rmw.And = codes "and"
rmw_name rmw.Or = codes "or"
rmw_name rmw.Xor = codes "xor"
rmw_name rmw.Exchange = codes "xchg"

-- the bits of a narrow access, and how an atomic one is made wide
abbrev pub access_name : Access → List ℕ
access_name (access.Whole t) = []
access_name (access.Narrow narrow) = narrow_name narrow

abbrev pub atomic_sign : Access → List ℕ
atomic_sign (access.Whole t) = []
atomic_sign (access.Narrow narrow) = codes "_u"

abbrev pub load_sign : Load → List ℕ
load_sign (load.Whole t) = []
load_sign (load.Narrow narrow extension) = sign_name extension

-- ---- names

abbrev pub plain_name : Plain → List ℕ
plain_name plain.Unreachable = codes "unreachable"
plain_name plain.Nop = codes "nop"
plain_name plain.Else = codes "else"
plain_name plain.End = codes "end"
plain_name plain.Return = codes "return"
plain_name plain.Discard = codes "drop"
plain_name plain.Select = codes "select"

abbrev pub extend_name : Extension → List ℕ
extend_name Signed = codes "i64.extend_i32_s"
extend_name Unsigned = codes "i64.extend_i32_u"

abbrev pub numeric_name : Numeric → List ℕ
numeric_name (numeric.IsZero t) = type_name t ++ codes ".eqz"
numeric_name (numeric.Compare t op) = type_name t ++ codes "." ++ comparison_name op
numeric_name (numeric.Unary t op) = type_name t ++ codes "." ++ unary_name op
numeric_name (numeric.Binary t op) = type_name t ++ codes "." ++ binary_name op
numeric_name numeric.Wrap = codes "i32.wrap_i64"
numeric_name (numeric.Extend extension) = extend_name extension
numeric_name (numeric.ExtendLow narrow) = type_name (narrow_type narrow) ++ codes ".extend" ++ narrow_name narrow ++ codes "_s"

abbrev pub block_name : BlockKind → List ℕ
block_name kind.Block = codes "block"
block_name kind.Loop = codes "loop"
block_name kind.If = codes "if"

abbrev pub index_name : IndexOp → List ℕ
index_name index.Branch = codes "br"
index_name index.BranchIf = codes "br_if"
index_name index.Call = codes "call"
index_name index.LocalGet = codes "local.get"
index_name index.LocalSet = codes "local.set"
index_name index.LocalTee = codes "local.tee"
index_name index.GlobalGet = codes "global.get"
index_name index.GlobalSet = codes "global.set"

abbrev pub memory_name : MemoryOp → List ℕ
memory_name (memory.Load l) = type_name (access_type (load_access l)) ++ codes ".load" ++ access_name (load_access l) ++ load_sign l
memory_name (memory.Store a) = type_name (access_type a) ++ codes ".store" ++ access_name a

abbrev pub pages_name : PagesOp → List ℕ
pages_name pages.Size = codes "memory.size"
pages_name pages.Grow = codes "memory.grow"

abbrev pub wait_name : ValType → List ℕ
wait_name I32 = codes "memory.atomic.wait32"
wait_name I64 = codes "memory.atomic.wait64"

abbrev pub rmw_text : Access → List ℕ → List ℕ
rmw_text a name = type_name (access_type a) ++ codes ".atomic.rmw" ++ access_name a ++ codes "." ++ name ++ atomic_sign a

abbrev pub atomic_name : AtomicOp → List ℕ
atomic_name atomic.Notify = codes "memory.atomic.notify"
atomic_name (atomic.Wait t) = wait_name t
atomic_name (atomic.Load a) = type_name (access_type a) ++ codes ".atomic.load" ++ access_name a ++ atomic_sign a
atomic_name (atomic.Store a) = type_name (access_type a) ++ codes ".atomic.store" ++ access_name a
atomic_name (atomic.Rmw op a) = rmw_text a (rmw_name op)
atomic_name (atomic.CompareExchange a) = rmw_text a (codes "cmpxchg")

-- ---- operands

abbrev pub result_text : Option ValType → List ℕ
result_text None = []
result_text (Some t) = codes " (result " ++ type_name t ++ codes ")"

abbrev pub index_text : ℕ → List ℕ
index_text i = codes " " ++ decimal i

abbrev pub indices_text : List ℕ → List ℕ
indices_text is = flat_map index_text is

-- the labels that a range has of those of a body
abbrev pub labels_in : List ℕ → LabelRange → List ℕ
labels_in labels range = take range.count (drop range.first labels)

abbrev pub offset_text : ℕ → List ℕ
offset_text offset = if offset == 0 then [] else codes " offset=" ++ decimal offset

-- in bytes, where it is less than the natural one: no greater one is valid (3.3.7 "Memory Instructions")
abbrev pub align_text : (natural exponent : ℕ) → List ℕ
align_text natural exponent = if nat_le natural exponent then [] else codes " align=" ++ decimal (2 ^ exponent)

abbrev pub argument_text : (natural : ℕ) → MemArg → List ℕ
argument_text natural m = offset_text m.offset ++ align_text natural m.align

-- read as signed by two's complement
abbrev pub const_text : Value → List ℕ
const_text (value.I32 bits) = codes "i32.const " ++ signed_decimal (cast_signed w32 bits)
const_text (value.I64 bits) = codes "i64.const " ++ signed_decimal (cast_signed w64 bits)

abbrev pub memory_exponent : MemoryOp → ℕ
memory_exponent (memory.Load l) = access_exponent (load_access l)
memory_exponent (memory.Store a) = access_exponent a

-- ---- instructions

-- an instruction of a body with these labels
abbrev pub instruction_text : (labels : List ℕ) → Instr → List ℕ
instruction_text labels (instr.Plain op) = plain_name op
instruction_text labels (instr.Numeric op) = numeric_name op
instruction_text labels (instr.Block kind result) = block_name kind ++ result_text result
instruction_text labels (instr.Index op i) = index_name op ++ index_text i
instruction_text labels (instr.BranchTable range default) = codes "br_table" ++ indices_text (labels_in labels range) ++ index_text default
instruction_text labels (instr.CallIndirect t) = codes "call_indirect (type " ++ decimal t ++ codes ")"
instruction_text labels (instr.Memory op m) = memory_name op ++ argument_text (memory_exponent op) m
instruction_text labels (instr.Pages op) = pages_name op
instruction_text labels (instr.Const v) = const_text v
instruction_text labels (instr.Atomic op m) = atomic_name op ++ argument_text (atomic_exponent op) m
instruction_text labels instr.Fence = codes "atomic.fence"
