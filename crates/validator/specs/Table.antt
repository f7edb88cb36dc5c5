-- What each instruction takes and leaves. WebAssembly Core 1.0, validation, instructions; for the atomic ones the
-- threads proposal. In a row of types the last one is the operand on top.
use Rattle.std.specs.Prelude.{ℕ, ◌&&◌, Bool, true, false, List, [], ◌∷◌, ◌++◌, Option, Some, None, slice_get, nat_le, nat_eq}
use Rattle.std.specs.List.{list_all}
use Rattle.wasm_types.specs.declared.value.ValType.{ValType}
use Rattle.wasm_types.specs.declared.value.ValType.TheVariants.{I32, I64}
use Rattle.wasm_types.specs.declared.instruction.Instr.{Instr}
use Rattle.wasm_types.specs.declared.instruction.Instr.TheVariants as instr
use Rattle.wasm_types.specs.declared.instruction.Plain.{Plain}
use Rattle.wasm_types.specs.declared.instruction.Plain.TheVariants.{Unreachable, Nop, Else, End, Return, Discard, Select}
use Rattle.wasm_types.specs.declared.instruction.Numeric.{Numeric}
use Rattle.wasm_types.specs.declared.instruction.Numeric.TheVariants.{IsZero, Compare, Unary, Binary, Wrap, Extend, ExtendLow}
use Rattle.wasm_types.specs.declared.instruction.BlockKind.{BlockKind}
use Rattle.wasm_types.specs.declared.instruction.BlockKind.TheVariants.{Block, Loop, If}
use Rattle.wasm_types.specs.declared.instruction.IndexOp.{IndexOp}
use Rattle.wasm_types.specs.declared.instruction.IndexOp.TheVariants.{Branch, BranchIf, Call, LocalGet, LocalSet, LocalTee, GlobalGet, GlobalSet}
use Rattle.wasm_types.specs.declared.instruction.MemoryOp.{MemoryOp}
use Rattle.wasm_types.specs.declared.instruction.MemoryOp.TheVariants as memory
use Rattle.wasm_types.specs.declared.instruction.PagesOp.{PagesOp}
use Rattle.wasm_types.specs.declared.instruction.PagesOp.TheVariants.{Size, Grow}
use Rattle.wasm_types.specs.declared.instruction.AtomicOp.{AtomicOp}
use Rattle.wasm_types.specs.declared.instruction.AtomicOp.TheVariants as atomic
use Rattle.wasm_types.specs.declared.nesting.Enclosing.{Enclosing}
use Rattle.wasm_types.specs.declared.nesting.Enclosing.TheVariants.{FirstArm, Whole}
use Rattle.wasm_types.specs.Values.{same_type, type_of}
use Rattle.wasm_types.specs.Accesses.{access_exponent, access_type, atomic_exponent, load_access, narrow_type}
use Rattle.validator.specs.Context.{Context, has_memory, has_table, labels_in, function_type}

-- what an instruction asks of the operands
pub data Class : Type 0 where
  -- takes the first types, and leaves the second
  Fixed : (takes gives : List ValType) → Class
  -- takes one operand of any type
  Discards : Class
  -- takes two operands of one type and an i32, and leaves one of the two
  Selects : Class
  -- takes these types and whatever is below them, and leaves anything
  Leaves : (takes : List ValType) → Class
  -- takes these types, and opens a block, which begins with nothing
  Enters : (takes : List ValType) (enclosing : Enclosing) (label result : List ValType) → Class
  Turning : Class
  Ending : Class
  -- names something that isn't there, or asks for something that the module hasn't
  Wrong : Class

abbrev pub if_some : {X : Type 0} → Option X → (X → Class) → Class
if_some None f = Wrong
if_some (Some x) f = f x

abbrev pub if_true : Bool → Class → Class
if_true false class = Wrong
if_true true class = class

-- the result of a block
abbrev pub seq : Option ValType → List ValType
seq None = []
seq (Some t) = t ∷ []

abbrev pub numeric_class : Numeric → Class
numeric_class (IsZero t) = Fixed (t ∷ []) (I32 ∷ [])
numeric_class (Compare t op) = Fixed (t ∷ t ∷ []) (I32 ∷ [])
numeric_class (Unary t op) = Fixed (t ∷ []) (t ∷ [])
numeric_class (Binary t op) = Fixed (t ∷ t ∷ []) (t ∷ [])
numeric_class Wrap = Fixed (I64 ∷ []) (I32 ∷ [])
numeric_class (Extend extension) = Fixed (I32 ∷ []) (I64 ∷ [])
numeric_class (ExtendLow narrow) = Fixed (narrow_type narrow ∷ []) (narrow_type narrow ∷ [])

abbrev pub plain_class : Context → Plain → Class
plain_class c Unreachable = Leaves []
plain_class c Nop = Fixed [] []
plain_class c Else = Turning
plain_class c End = Ending
plain_class c Return = Leaves c.result
plain_class c Discard = Discards
plain_class c Select = Selects

abbrev pub block_class : BlockKind → List ValType → Class
block_class Block result = Enters [] Whole result result
block_class Loop result = Enters [] Whole [] result
block_class If result = Enters (I32 ∷ []) FirstArm result result

-- a global that is written is mutable
abbrev pub index_class : Context → IndexOp → ℕ → Class
index_class c Branch label = if_some (slice_get c.labels label) (λ takes. Leaves takes)
index_class c BranchIf label = if_some (slice_get c.labels label) (λ takes. Fixed (takes ++ I32 ∷ []) takes)
index_class c Call function = if_some (function_type c.within function) (λ kind. Fixed kind.params kind.results)
index_class c LocalGet local = if_some (slice_get c.locals local) (λ t. Fixed [] (t ∷ []))
index_class c LocalSet local = if_some (slice_get c.locals local) (λ t. Fixed (t ∷ []) [])
index_class c LocalTee local = if_some (slice_get c.locals local) (λ t. Fixed (t ∷ []) (t ∷ []))
index_class c GlobalGet global = if_some (slice_get c.within.globals global) (λ g. Fixed [] (g.val_type ∷ []))
index_class c GlobalSet global = if_some (slice_get c.within.globals global) (λ g. if_true g.mutable (Fixed (g.val_type ∷ []) []))

abbrev pub same_types : List ValType → List ValType → Bool
same_types [] [] = true
same_types [] (u ∷ us) = false
same_types (t ∷ ts) [] = false
same_types (t ∷ ts) (u ∷ us) = same_type t u && same_types ts us

abbrev pub takes_these : List ValType → Option (List ValType) → Bool
takes_these takes None = false
takes_these takes (Some others) = same_types takes others

-- each of these labels is there and takes these types
abbrev pub all_take : List (List ValType) → List ValType → List ℕ → Bool
all_take labels takes ls = list_all (λ l. takes_these takes (slice_get labels l)) ls

abbrev pub table_class : Context → Option (List ℕ) → ℕ → Class
table_class c None default = Wrong
table_class c (Some labels) default = if_some (slice_get c.labels default) (λ takes. if_true (all_take c.labels takes labels) (Leaves (takes ++ I32 ∷ [])))

-- an alignment is at most the width's exponent
abbrev pub memory_class : MemoryOp → ℕ → Class
memory_class (memory.Load l) align = if_true (nat_le align (access_exponent (load_access l))) (Fixed (I32 ∷ []) (access_type (load_access l) ∷ []))
memory_class (memory.Store a) align = if_true (nat_le align (access_exponent a)) (Fixed (I32 ∷ access_type a ∷ []) [])

abbrev pub pages_class : PagesOp → Class
pages_class Size = Fixed [] (I32 ∷ [])
pages_class Grow = Fixed (I32 ∷ []) (I32 ∷ [])

-- the operands of an atomic instruction, the address first, and what it leaves
abbrev pub atomic_operands : AtomicOp → Class
atomic_operands atomic.Notify = Fixed (I32 ∷ I32 ∷ []) (I32 ∷ [])
atomic_operands (atomic.Wait t) = Fixed (I32 ∷ t ∷ I64 ∷ []) (I32 ∷ [])
atomic_operands (atomic.Load a) = Fixed (I32 ∷ []) (access_type a ∷ [])
atomic_operands (atomic.Store a) = Fixed (I32 ∷ access_type a ∷ []) []
atomic_operands (atomic.Rmw op a) = Fixed (I32 ∷ access_type a ∷ []) (access_type a ∷ [])
atomic_operands (atomic.CompareExchange a) = Fixed (I32 ∷ access_type a ∷ access_type a ∷ []) (access_type a ∷ [])

-- an alignment is the width's exponent
abbrev pub atomic_class : AtomicOp → ℕ → Class
atomic_class op align = if_true (nat_eq align (atomic_exponent op)) (atomic_operands op)

-- the fence alone does without a memory
abbrev pub class_of : Context → Instr → Class
class_of c (instr.Plain p) = plain_class c p
class_of c (instr.Numeric n) = numeric_class n
class_of c (instr.Block kind result) = block_class kind (seq result)
class_of c (instr.Index op index) = index_class c op index
class_of c (instr.BranchTable range default) = table_class c (labels_in c.table_labels range) default
class_of c (instr.CallIndirect index) = if_true (has_table c.within) (if_some (slice_get c.within.types index) (λ kind. Fixed (kind.params ++ I32 ∷ []) kind.results))
class_of c (instr.Memory op arg) = if_true (has_memory c.within) (memory_class op arg.align)
class_of c (instr.Pages op) = if_true (has_memory c.within) (pages_class op)
class_of c (instr.Const v) = Fixed [] (type_of v ∷ [])
class_of c (instr.Atomic op arg) = if_true (has_memory c.within) (atomic_class op arg.align)
class_of c instr.Fence = Fixed [] []
