-- Reading a module from left to right. Where it is asked for, limits are kept.
use Rattle.std.specs.Prelude.{ℕ, zero, suc, ◌+◌, Bool, true, false, ◌&&◌, List, [], ◌∷◌, ◌++◌, length, Option, Some, None, Result, Ok, Err, nat_lt, ◌==◌, if◌then◌else◌, map}
use Rattle.std.specs.Int.{w32, w64, cast_unsigned}
use Rattle.wasm_types.specs.Nesting.{nesting_of, opened}
use Rattle.wasm_types.specs.declared.nesting.Enclosing.{Enclosing}
use Rattle.wasm_types.specs.declared.nesting.Enclosing.TheVariants.{Whole}
use Rattle.binary_decoder.specs.Fault.{Fault, Malformed, Oversized, Reading, ◌>>=◌}
use Rattle.binary_decoder.specs.Reading.{byte_at, or_malformed, u32_at, s32_at, s64_at, then_at, made_at, kind_at, limited_at, vector_at, byte_vector_at, name_at, end_at, all_of, sized_all_at, sized_at}
use Rattle.binary_decoder.specs.Opcodes.{opcode_at, atomic_at}
use Rattle.binary_decoder.specs.Grammar.{preamble}
use Rattle.wasm_types.specs.Limits.{params_of}
use Rattle.wasm_types.specs.declared.value.ValType.{ValType}
use Rattle.wasm_types.specs.declared.value.ValType.TheVariants.{I32, I64}
use Rattle.wasm_types.specs.declared.value.Value.{Value}
use Rattle.wasm_types.specs.declared.value.Value.TheVariants as value
use Rattle.wasm_types.specs.declared.instruction.MemArg.{MemArg}
use Rattle.wasm_types.specs.declared.instruction.Instr.{Instr}
use Rattle.wasm_types.specs.declared.instruction.Instr.TheVariants.{Plain, Numeric, Block, Index, BranchTable, CallIndirect, Memory, Pages, Const, Atomic, Fence}
use Rattle.wasm_types.specs.declared.modules.FuncType.{FuncType}
use Rattle.wasm_types.specs.declared.modules.Limits.{Limits}
use Rattle.wasm_types.specs.declared.modules.MemoryType.{MemoryType}
use Rattle.wasm_types.specs.declared.modules.Import.{Import}
use Rattle.wasm_types.specs.declared.modules.Global.{Global}
use Rattle.wasm_types.specs.declared.modules.ExportKind.{ExportKind}
use Rattle.wasm_types.specs.declared.modules.ExportKind.TheVariants as kind
use Rattle.wasm_types.specs.declared.modules.Export.{Export}
use Rattle.wasm_types.specs.declared.modules.Element.{Element}
use Rattle.wasm_types.specs.declared.modules.LocalGroup.{LocalGroup}
use Rattle.wasm_types.specs.declared.modules.Body.{Body}
use Rattle.wasm_types.specs.declared.modules.Data.{Data}
use Rattle.binary_decoder.specs.declared.opcodes.Opcode.{Opcode}
use Rattle.binary_decoder.specs.declared.opcodes.Opcode.TheVariants as op
use Rattle.binary_decoder.specs.declared.opcodes.AtomicCode.{AtomicCode}
use Rattle.binary_decoder.specs.declared.opcodes.AtomicCode.TheVariants as at

-- items that were read before, in front of those that are read
abbrev pub with_front : {X : Type 0} → List X → Reading (List X) → Reading (List X)
with_front front read = read >>= λ x. Ok (front ++ x.0, x.1)

-- ---- types

abbrev pub choice_at : {K : Type 0} → (ℕ → Option K) → List ℕ → Reading K
choice_at pick = kind_at pick (λ k bytes. Ok (k, bytes))

abbrev pub val_type_of : ℕ → Option ValType
val_type_of c = if c == 0x7F then Some I32 else (if c == 0x7E then Some I64 else None)

unfoldable pub val_type_at : List ℕ → Reading ValType
val_type_at = choice_at val_type_of

unfoldable pub func_type_at : List ℕ → Reading FuncType
func_type_at = made_at (λ p. record { params = p.1.0; results = p.1.1 }) (then_at (byte_at 0x60) (λ _. then_at (vector_at val_type_at) (λ _. vector_at val_type_at)))

abbrev pub block_type_of : ℕ → Option (Option ValType)
block_type_of c = if c == 0x40 then Some None else (if c == 0x7F then Some (Some I32) else (if c == 0x7E then Some (Some I64) else None))

unfoldable pub block_type_at : List ℕ → Reading (Option ValType)
block_type_at = choice_at block_type_of

abbrev pub flag_of : ℕ → Option Bool
flag_of c = if c == 0x00 then Some false else (if c == 0x01 then Some true else None)

-- sizes, the least one at most so much
unfoldable pub sizes_at : Bool → ℕ → Bool → List ℕ → Reading Limits
sizes_at limited most false bytes = made_at (λ n. record { minimum = n; maximum = None }) (limited_at limited most 0) bytes
sizes_at limited most true bytes = made_at (λ p. record { minimum = p.0; maximum = Some p.1 }) (then_at (limited_at limited most 0) (λ _. u32_at)) bytes

unfoldable pub table_type_at : Bool → List ℕ → Reading Limits
table_type_at limited = made_at (λ p. p.1) (then_at (byte_at 0x70) (λ _. kind_at flag_of (sizes_at limited 4096)))

abbrev pub memory_flag_of : ℕ → Option (Bool × Bool)
memory_flag_of c = if c == 0x00 then Some (false, false) else (if c == 0x01 then Some (true, false) else (if c == 0x02 then Some (false, true) else (if c == 0x03 then Some (true, true) else None)))

unfoldable pub memory_sizes_at : Bool → Bool × Bool → List ℕ → Reading MemoryType
memory_sizes_at limited (false, true) bytes = Err Malformed
memory_sizes_at limited (bounded, shared) bytes = made_at (λ l. record { limits = l; shared = shared }) (sizes_at limited 256 bounded) bytes

unfoldable pub memory_type_at : Bool → List ℕ → Reading MemoryType
memory_type_at limited = kind_at memory_flag_of (memory_sizes_at limited)

-- ---- constants

unfoldable pub constant_at : ValType → List ℕ → Reading Value
constant_at I32 bytes = made_at (λ z. value.I32 (cast_unsigned w32 z)) s32_at bytes
constant_at I64 bytes = made_at (λ z. value.I64 (cast_unsigned w64 z)) s64_at bytes

abbrev pub const_type_of : ℕ → Option ValType
const_type_of c = if c == 0x41 then Some I32 else (if c == 0x42 then Some I64 else None)

unfoldable pub const_expr_at : List ℕ → Reading Value
const_expr_at = kind_at const_type_of (λ t. made_at (λ p. p.0) (then_at (constant_at t) (λ _. byte_at 0x0B)))

-- ---- instructions

unfoldable pub mem_arg_at : List ℕ → Reading MemArg
mem_arg_at = made_at (λ p. record { align = p.0; offset = p.1 }) (then_at u32_at (λ _. u32_at))

unfoldable pub atomic_operands_at : AtomicCode → List ℕ → Reading Instr
atomic_operands_at (at.Op o) bytes = made_at (Atomic o) mem_arg_at bytes
atomic_operands_at at.Fence bytes = made_at (λ _. Fence) (byte_at 0x00) bytes

unfoldable pub prefixed_at : List ℕ → Reading Instr
prefixed_at bytes = u32_at bytes >>= λ n. or_malformed (atomic_at n.0) >>= λ o. atomic_operands_at o n.1

-- an instruction without labels
unfoldable pub simple_at : Opcode → List ℕ → Reading Instr
simple_at (op.Plain i) bytes = Ok (Plain i, bytes)
simple_at (op.Numeric i) bytes = Ok (Numeric i, bytes)
simple_at (op.Block k) bytes = made_at (Block k) block_type_at bytes
simple_at (op.Index i) bytes = made_at (Index i) u32_at bytes
simple_at op.BranchTable bytes = Err Malformed
simple_at op.CallIndirect bytes = made_at (λ p. CallIndirect p.0) (then_at u32_at (λ _. byte_at 0x00)) bytes
simple_at (op.Memory i) bytes = made_at (Memory i) mem_arg_at bytes
simple_at (op.Pages i) bytes = made_at (λ _. Pages i) (byte_at 0x00) bytes
simple_at (op.Const t) bytes = made_at Const (constant_at t) bytes
simple_at op.Prefix bytes = prefixed_at bytes

abbrev pub table_instr : List ℕ → List ℕ → ℕ → Instr
table_instr before labels default = BranchTable (record { first = length before; count = length labels }) default

-- the labels before the instruction are handed in, and those after it are given
unfoldable pub branch_table_at : List ℕ → List ℕ → Reading (Instr × List ℕ)
branch_table_at before = made_at (λ p. (table_instr before p.0 p.1, before ++ p.0)) (then_at (vector_at u32_at) (λ _. u32_at))

unfoldable pub operands_at : List ℕ → Opcode → List ℕ → Reading (Instr × List ℕ)
operands_at before op.BranchTable bytes = branch_table_at before bytes
operands_at before o bytes = made_at (λ i. (i, before)) (simple_at o) bytes

unfoldable pub instr_at : List ℕ → List ℕ → Reading (Instr × List ℕ)
instr_at before = kind_at opcode_at (operands_at before)

-- instructions until all blocks are closed, at most so many
unfoldable pub instrs_at : ℕ → List ℕ → List Enclosing → List ℕ → Reading (List Instr × List ℕ)
instrs_at n before [] bytes = Ok (([], before), bytes)
instrs_at zero before (e ∷ es) bytes = Err Malformed
instrs_at (suc n) before (e ∷ es) bytes =
    made_at (λ p. (p.0.0 ∷ p.1.0, p.1.1)) (then_at (instr_at before) (λ i rest. or_malformed (opened (nesting_of i.0) (e ∷ es)) >>= λ after. instrs_at n i.1 after rest)) bytes

abbrev pub expr_at : List ℕ → Reading (List Instr × List ℕ)
expr_at bytes = instrs_at (length bytes) [] (Whole ∷ []) bytes

-- ---- functions

-- with the parameters and locals before them the locals are at most 1,024, where limits hold
unfoldable pub group_at : Bool → ℕ → List ℕ → Reading LocalGroup
group_at limited used = made_at (λ p. record { count = p.0; val_type = p.1 }) (then_at (limited_at limited 1024 used) (λ _. val_type_at))

unfoldable pub groups_at : Bool → ℕ → ℕ → List ℕ → Reading (List LocalGroup)
groups_at limited used zero bytes = Ok ([], bytes)
groups_at limited used (suc n) bytes = made_at (λ p. p.0 ∷ p.1) (then_at (group_at limited used) (λ g. groups_at limited (used + g.count) n)) bytes

unfoldable pub locals_at : Bool → ℕ → List ℕ → Reading (List LocalGroup)
locals_at limited used = made_at (λ p. p.1) (then_at u32_at (groups_at limited used))

unfoldable pub inside_at : Bool → ℕ → List ℕ → Reading Body
inside_at limited params = made_at (λ p. record { locals = p.0; code = p.1.0; labels = p.1.1 }) (then_at (locals_at limited params) (λ _. expr_at))

unfoldable pub body_at : Bool → ℕ → List ℕ → Reading Body
body_at limited params bytes = if limited && nat_lt 1024 params then Err Oversized else sized_at (inside_at limited params) bytes

-- a body for each function, by the numbers of their parameters
unfoldable pub bodies_at : Bool → List ℕ → List ℕ → Reading (List Body)
bodies_at limited [] bytes = Ok ([], bytes)
bodies_at limited (params ∷ others) bytes = made_at (λ p. p.0 ∷ p.1) (then_at (body_at limited params) (λ _. bodies_at limited others)) bytes

unfoldable pub code_at : Bool → List ℕ → List ℕ → Reading (List Body)
code_at limited params = made_at (λ p. p.1) (then_at u32_at (λ n bytes. if n == length params then bodies_at limited params bytes else Err Malformed))

-- ---- what sections hold

unfoldable pub import_at : Bool → List ℕ → Reading Import
import_at limited = made_at (λ p. record { «module» = p.0; name = p.1.0; memory = p.1.1.1 }) (then_at name_at (λ _. then_at name_at (λ _. then_at (byte_at 0x02) (λ _. memory_type_at limited))))

unfoldable pub global_at : List ℕ → Reading Global
global_at = made_at (λ p. record { val_type = p.0; mutable = p.1.0; value = p.1.1 }) (then_at val_type_at (λ _. then_at (choice_at flag_of) (λ _. const_expr_at)))

abbrev pub export_kind_of : ℕ → Option ExportKind
export_kind_of c = if c == 0x00 then Some kind.Function else (if c == 0x01 then Some kind.Table else (if c == 0x02 then Some kind.Memory else (if c == 0x03 then Some kind.Global else None)))

unfoldable pub export_at : List ℕ → Reading Export
export_at = made_at (λ p. record { name = p.0; kind = p.1.0; index = p.1.1 }) (then_at name_at (λ _. then_at (choice_at export_kind_of) (λ _. u32_at)))

unfoldable pub element_at : List ℕ → Reading Element
element_at = made_at (λ p. record { table = p.0; offset = p.1.0; functions = p.1.1 }) (then_at u32_at (λ _. then_at const_expr_at (λ _. vector_at u32_at)))

unfoldable pub data_at : List ℕ → Reading Data
data_at = made_at (λ p. record { memory = p.0; offset = p.1.0; bytes = p.1.1 }) (then_at u32_at (λ _. then_at const_expr_at (λ _. byte_vector_at)))

-- ---- sections

-- behind the id of a custom section
unfoldable pub custom_at : List ℕ → Reading (List ℕ)
custom_at = sized_all_at (λ content. name_at content >>= λ title. Ok title.0)

-- the same, with no answer
abbrev pub behind_custom_at : List ℕ → Reading (Unit {0})
behind_custom_at bytes = custom_at bytes >>= λ x. Ok (tt, x.1)

-- what is behind the custom sections at the front, at most so many
unfoldable pub skip_at : ℕ → List ℕ → Result (List ℕ) Fault
skip_at n [] = Ok []
skip_at zero (b ∷ bs) = Err Malformed
skip_at (suc n) (zero ∷ bs) = custom_at bs >>= λ x. skip_at n x.1
skip_at (suc n) (suc b ∷ bs) = Ok (suc b ∷ bs)

unfoldable pub skipped : List ℕ → Result (List ℕ) Fault
skipped bytes = skip_at (length bytes) bytes

-- the content of a section of this id, if it is there
unfoldable pub content_at : ℕ → List ℕ → Reading (Option (List ℕ))
content_at id [] = Ok (None, [])
content_at id (b ∷ bs) = if b == id then made_at Some byte_vector_at bs else Ok (None, b ∷ bs)

-- custom sections, and then the content of a section of this id, if it is there
unfoldable pub opening_at : ℕ → List ℕ → Reading (Option (List ℕ))
opening_at id bytes = skipped bytes >>= λ rest. content_at id rest

abbrev pub in_content : {X : Type 0} → X → (List ℕ → Reading X) → Option (List ℕ) → Result X Fault
in_content none read None = Ok none
in_content none read (Some content) = all_of (read content)

-- custom sections, and then a section of this id, if it is there
unfoldable pub section_at : {X : Type 0} → ℕ → X → (List ℕ → Reading X) → List ℕ → Reading X
section_at id none read bytes = opening_at id bytes >>= λ o. in_content none read o.0 >>= λ x. Ok (x, o.1)

-- custom sections, and nothing behind them
unfoldable pub end_sections_at : ℕ → ℕ → List ℕ → Result (Unit {0}) Fault
end_sections_at functions bodies bytes = skipped bytes >>= λ rest. end_at rest >>= λ _. if functions == bodies then Ok tt else Err Malformed

abbrev pub slot_at : {X Y : Type 0} → ℕ → X → (List ℕ → Reading X) → (X → List ℕ → Result Y Fault) → List ℕ → Result (X × Y) Fault
slot_at id none read others bytes = section_at id none read bytes >>= λ x. others x.0 x.1 >>= λ y. Ok (x.0, y)

abbrev pub AfterCode : Type 0
AfterCode = List Data × Unit {0}

abbrev pub AfterStart : Type 0
AfterStart = List Element × (List Body × AfterCode)

abbrev pub AfterMemories : Type 0
AfterMemories = List Global × (List Export × (Option ℕ × AfterStart))

abbrev pub Parts : Type 0
Parts = List FuncType × (List Import × (List ℕ × (List Limits × (List MemoryType × AfterMemories))))

abbrev pub start_at : List ℕ → Reading (Option ℕ)
start_at = made_at Some u32_at

unfoldable pub after_code_at : List ℕ → List Body → List ℕ → Result AfterCode Fault
after_code_at functions bodies = slot_at 11 [] (vector_at data_at) (λ _. end_sections_at (length functions) (length bodies))

unfoldable pub code_slot_at : Bool → List FuncType → List ℕ → List ℕ → Result (List Body × AfterCode) Fault
code_slot_at limited types functions = slot_at 10 [] (code_at limited (map (params_of types) functions)) (after_code_at functions)

unfoldable pub after_start_at : Bool → List FuncType → List ℕ → List ℕ → Result AfterStart Fault
after_start_at limited types functions = slot_at 9 [] (vector_at element_at) (λ _. code_slot_at limited types functions)

unfoldable pub after_memories_at : Bool → List FuncType → List ℕ → List ℕ → Result AfterMemories Fault
after_memories_at limited types functions = slot_at 6 [] (vector_at global_at) (λ _. slot_at 7 [] (vector_at export_at) (λ _. slot_at 8 None start_at (λ _. after_start_at limited types functions)))

unfoldable pub sections_at : Bool → List ℕ → Result Parts Fault
sections_at limited = slot_at 1 [] (vector_at func_type_at) (λ types. slot_at 2 [] (vector_at (import_at limited)) (λ _. slot_at 3 [] (vector_at u32_at) (λ functions. slot_at 4 [] (vector_at (table_type_at limited)) (λ _. slot_at 5 [] (vector_at (memory_type_at limited)) (λ _. after_memories_at limited types functions)))))

-- what is behind these bytes
abbrev pub prefix_at : List ℕ → List ℕ → Result (List ℕ) Fault
prefix_at [] bytes = Ok bytes
prefix_at (p ∷ ps) [] = Err Malformed
prefix_at (p ∷ ps) (b ∷ bs) = if b == p then prefix_at ps bs else Err Malformed

unfoldable pub parts_at : Bool → List ℕ → Result Parts Fault
parts_at limited bytes = prefix_at preamble bytes >>= λ rest. sections_at limited rest
