-- How the class of an instruction nests.
use Rattle.std.proofs.Common.{◌≡◌, ℕ, Bool, true, false, List, [], ◌∷◌, Option, Some, None, refl, ◌∙◌, ap, slice_get}
use Rattle.wasm_types.specs.declared.value.ValType.TheVariants.{I32}
use Rattle.wasm_types.specs.declared.instruction.Instr.{Instr}
use Rattle.wasm_types.specs.declared.instruction.Instr.TheVariants as instr
use Rattle.wasm_types.specs.declared.instruction.Instr.TheVariants.{Plain}
use Rattle.wasm_types.specs.declared.instruction.Plain.TheVariants.{Unreachable, Nop, Else, End, Return, Discard, Select}
use Rattle.wasm_types.specs.declared.nesting.Enclosing.TheVariants.{FirstArm, Whole}
use Rattle.validator.specs.Context.{Context}
use Rattle.validator.specs.Table.{Class, Fixed, Discards, Selects, Leaves, Enters, Turning, Ending, Wrong, class_of, if_some, if_true}
use Rattle.std.specs.Prelude.{nat_le, nat_eq}
use Rattle.wasm_types.specs.declared.nesting.Nesting.{Nesting}
use Rattle.wasm_types.specs.declared.nesting.Nesting.TheVariants.{Opens, OpensIf, Turns, Closes, Stays}
use Rattle.wasm_types.specs.Nesting.{nesting_of}
use Rattle.wasm_types.specs.declared.instruction.Numeric.{Numeric}
use Rattle.wasm_types.specs.declared.instruction.Numeric.TheVariants.{IsZero, Compare, Unary, Binary, Wrap, Extend, ExtendLow}
use Rattle.wasm_types.specs.declared.instruction.BlockKind.TheVariants.{Block, Loop, If}
use Rattle.wasm_types.specs.declared.instruction.IndexOp.{IndexOp}
use Rattle.wasm_types.specs.declared.instruction.IndexOp.TheVariants.{Branch, BranchIf, Call, LocalGet, LocalSet, LocalTee, GlobalGet, GlobalSet}
use Rattle.wasm_types.specs.declared.instruction.MemoryOp.{MemoryOp}
use Rattle.wasm_types.specs.declared.instruction.MemoryOp.TheVariants as memory
use Rattle.wasm_types.specs.declared.instruction.PagesOp.{PagesOp}
use Rattle.wasm_types.specs.declared.instruction.PagesOp.TheVariants.{Size, Grow}
use Rattle.wasm_types.specs.declared.instruction.AtomicOp.{AtomicOp}
use Rattle.wasm_types.specs.declared.instruction.AtomicOp.TheVariants as atomic
use Rattle.validator.specs.Context.{has_memory, has_table, labels_in, function_type}
use Rattle.wasm_types.specs.Accesses.{access_exponent, access_type, atomic_exponent, load_access}
use Rattle.validator.specs.Table.{numeric_class, index_class, table_class, memory_class, pages_class, atomic_operands, all_take}

abbrev pub nests : Class → Nesting
nests (Fixed takes gives) = Stays
nests Discards = Stays
nests Selects = Stays
nests (Leaves takes) = Stays
nests (Enters takes Whole label result) = Opens
nests (Enters takes FirstArm label result) = OpensIf
nests Turning = Turns
nests Ending = Closes
nests Wrong = Stays

named : {X : Type 0} (o : Option X) (f : X → Class) → ((x : X) → Stays ≡ nests (f x)) → Stays ≡ nests (if_some o f)
named None f k = refl
named (Some x) f k = k x

allowed : (b : Bool) (cl : Class) → Stays ≡ nests cl → Stays ≡ nests (if_true b cl)
allowed false cl k = refl
allowed true cl k = k

numeric_stays : (n : Numeric) → Stays ≡ nests (numeric_class n)
numeric_stays (IsZero t) = refl
numeric_stays (Compare t op) = refl
numeric_stays (Unary t op) = refl
numeric_stays (Binary t op) = refl
numeric_stays Wrap = refl
numeric_stays (Extend extension) = refl
numeric_stays (ExtendLow narrow) = refl

index_stays : (c : Context) (op : IndexOp) (x : ℕ) → Stays ≡ nests (index_class c op x)
index_stays c Branch x = named (slice_get c.labels x) _ (λ y. refl)
index_stays c BranchIf x = named (slice_get c.labels x) _ (λ y. refl)
index_stays c Call x = named (function_type c.within x) _ (λ y. refl)
index_stays c LocalGet x = named (slice_get c.locals x) _ (λ y. refl)
index_stays c LocalSet x = named (slice_get c.locals x) _ (λ y. refl)
index_stays c LocalTee x = named (slice_get c.locals x) _ (λ y. refl)
index_stays c GlobalGet x = named (slice_get c.within.globals x) _ (λ y. refl)
index_stays c GlobalSet x = named (slice_get c.within.globals x) _ (λ y. allowed y.mutable _ refl)

table_stays : (c : Context) (labels : Option (List ℕ)) (default : ℕ) → Stays ≡ nests (table_class c labels default)
table_stays c None default = refl
table_stays c (Some labels) default = named (slice_get c.labels default) _ (λ takes. allowed (all_take c.labels takes labels) _ refl)

memory_stays : (op : MemoryOp) (align : ℕ) → Stays ≡ nests (memory_class op align)
memory_stays (memory.Load l) align = allowed (nat_le align (access_exponent (load_access l))) (Fixed (I32 ∷ []) (access_type (load_access l) ∷ [])) refl
memory_stays (memory.Store a) align = allowed (nat_le align (access_exponent a)) (Fixed (I32 ∷ access_type a ∷ []) []) refl

pages_stays : (op : PagesOp) → Stays ≡ nests (pages_class op)
pages_stays Size = refl
pages_stays Grow = refl

operands_stay : (op : AtomicOp) → Stays ≡ nests (atomic_operands op)
operands_stay atomic.Notify = refl
operands_stay (atomic.Wait t) = refl
operands_stay (atomic.Load a) = refl
operands_stay (atomic.Store a) = refl
operands_stay (atomic.Rmw op a) = refl
operands_stay (atomic.CompareExchange a) = refl

pub nesting_class : (c : Context) (i : Instr) → nesting_of i ≡ nests (class_of c i)
nesting_class c (Plain Unreachable) = refl
nesting_class c (Plain Nop) = refl
nesting_class c (Plain Else) = refl
nesting_class c (Plain End) = refl
nesting_class c (Plain Return) = refl
nesting_class c (Plain Discard) = refl
nesting_class c (Plain Select) = refl
nesting_class c (instr.Numeric n) = numeric_stays n
nesting_class c (instr.Block Block t) = refl
nesting_class c (instr.Block Loop t) = refl
nesting_class c (instr.Block If t) = refl
nesting_class c (instr.Index op x) = index_stays c op x
nesting_class c (instr.BranchTable range default) = table_stays c (labels_in c.table_labels range) default
nesting_class c (instr.CallIndirect index) = allowed (has_table c.within) _ (named (slice_get c.within.types index) _ (λ y. refl))
nesting_class c (instr.Memory op arg) = allowed (has_memory c.within) _ (memory_stays op arg.align)
nesting_class c (instr.Pages op) = allowed (has_memory c.within) _ (pages_stays op)
nesting_class c (instr.Const v) = refl
nesting_class c (instr.Atomic op arg) = allowed (has_memory c.within) _ (allowed (nat_eq arg.align (atomic_exponent op)) (atomic_operands op) (operands_stay op))
nesting_class c instr.Fence = refl

closes_is_end : (i : Instr) → nesting_of i ≡ Closes → i ≡ Plain End
closes_is_end (Plain Unreachable) h = cc
closes_is_end (Plain Nop) h = cc
closes_is_end (Plain Else) h = cc
closes_is_end (Plain End) h = refl
closes_is_end (Plain Return) h = cc
closes_is_end (Plain Discard) h = cc
closes_is_end (Plain Select) h = cc
closes_is_end (instr.Block Block t) h = cc
closes_is_end (instr.Block Loop t) h = cc
closes_is_end (instr.Block If t) h = cc
closes_is_end _ h = cc

turns_is_else : (i : Instr) → nesting_of i ≡ Turns → i ≡ Plain Else
turns_is_else (Plain Unreachable) h = cc
turns_is_else (Plain Nop) h = cc
turns_is_else (Plain Else) h = refl
turns_is_else (Plain End) h = cc
turns_is_else (Plain Return) h = cc
turns_is_else (Plain Discard) h = cc
turns_is_else (Plain Select) h = cc
turns_is_else (instr.Block Block t) h = cc
turns_is_else (instr.Block Loop t) h = cc
turns_is_else (instr.Block If t) h = cc
turns_is_else _ h = cc

pub is_end : (c : Context) (i : Instr) → class_of c i ≡ Ending → i ≡ Plain End
is_end c i h = closes_is_end i (nesting_class c i ∙ ap nests h)

pub is_else : (c : Context) (i : Instr) → class_of c i ≡ Turning → i ≡ Plain Else
is_else c i h = turns_is_else i (nesting_class c i ∙ ap nests h)
