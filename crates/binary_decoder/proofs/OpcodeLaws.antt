-- The tables of opcodes read back.
use Rattle.std.proofs.Common.{◌≡◌, ℕ, zero, suc, ◌+◌, ◌-◌, ◌≤◌, Bool, true, false, cond, ltb, leb, eqb, ◌&&◌, List, [], ◌∷◌, Option, Some, None, refl, sym, ap, ◌∙◌, arith}
use Rattle.std.specs.Prelude.{option_map, slice_get}
use Rattle.std.proofs.lemmas.Bool.{eqb-true, leb-true, and_parts}
use Rattle.std.proofs.lemmas.Option.{same_Some}
use Rattle.binary_decoder.specs.Opcodes.{narrow_number, narrow_load_number, comparison_number, unary_number, binary_number, access_number, code, atomic_number, control_at, memory_at, numeric_at, opcode_at, atomic_at}
use Rattle.binary_decoder.specs.declared.opcodes.TheConstants.{NARROW_LOADS, NARROWS, COMPARISONS, UNARY, BINARY, ACCESSES}
use Rattle.wasm_types.specs.declared.value.ValType.TheVariants.{I32, I64}
use Rattle.wasm_types.specs.declared.instruction.Narrow.TheVariants.{I32Of8, I32Of16, I64Of8, I64Of16, I64Of32}
use Rattle.wasm_types.specs.declared.instruction.Extension.TheVariants.{Signed, Unsigned}
use Rattle.wasm_types.specs.declared.instruction.Comparison.TheVariants.{Equal, NotEqual, LessSigned, LessUnsigned, GreaterSigned, GreaterUnsigned, LessEqualSigned, LessEqualUnsigned, GreaterEqualSigned, GreaterEqualUnsigned}
use Rattle.wasm_types.specs.declared.instruction.UnaryOp.TheVariants.{LeadingZeros, TrailingZeros, CountOnes}
use Rattle.wasm_types.specs.declared.instruction.BinaryOp.TheVariants.{Add, Subtract, Multiply, DivideSigned, DivideUnsigned, RemainderSigned, RemainderUnsigned, And, Or, Xor, ShiftLeft, ShiftRightSigned, ShiftRightUnsigned, RotateLeft, RotateRight}
use Rattle.wasm_types.specs.declared.instruction.BlockKind.TheVariants.{Block, Loop, If}
use Rattle.wasm_types.specs.declared.instruction.IndexOp.TheVariants.{Branch, BranchIf, Call, LocalGet, LocalSet, LocalTee, GlobalGet, GlobalSet}
use Rattle.wasm_types.specs.declared.instruction.Plain.TheVariants.{Unreachable, Nop, Else, End, Return, Discard, Select}
use Rattle.wasm_types.specs.declared.instruction.PagesOp.TheVariants.{Size, Grow}
use Rattle.wasm_types.specs.declared.instruction.RmwOp.TheVariants as rmw
use Rattle.wasm_types.specs.declared.instruction.Access.TheVariants as access
use Rattle.wasm_types.specs.declared.instruction.Load.TheVariants as load
use Rattle.wasm_types.specs.declared.instruction.MemoryOp.TheVariants as mem
use Rattle.wasm_types.specs.declared.instruction.Numeric.TheVariants as num
use Rattle.wasm_types.specs.declared.instruction.AtomicOp.TheVariants as atomic
use Rattle.binary_decoder.specs.declared.opcodes.Opcode.{Opcode}
use Rattle.binary_decoder.specs.declared.opcodes.Opcode.TheVariants as op
use Rattle.binary_decoder.specs.declared.opcodes.AtomicCode.{AtomicCode}
use Rattle.binary_decoder.specs.declared.opcodes.AtomicCode.TheVariants as at

-- a table lists what has the numbers from one on, in order
abbrev pub numbered : {X : Type 0} → (X → ℕ) → ℕ → List X → Bool
numbered number from [] = true
numbered number from (x ∷ xs) = eqb (number x) from && numbered number (suc from) xs

pub numbered_at : {X : Type 0} (number : X → ℕ) (from : ℕ) (xs : List X) (k : ℕ) (x : X) → numbered number from xs ≡ true → slice_get xs k ≡ Some x → number x ≡ from + k
numbered_at number from [] k x h e = absurd cc
numbered_at number from (y ∷ ys) zero x h e = let p = and_parts (eqb (number y) from) (numbered number (suc from) ys) h in let s : y ≡ x = same_Some y x e in ap number (sym s) ∙ eqb-true _ _ p.0 ∙ omega arith
numbered_at number from (y ∷ ys) (suc k) x h e = let p = and_parts (eqb (number y) from) (numbered number (suc from) ys) h in numbered_at number (suc from) ys k x p.1 e ∙ omega arith

narrow_load_numbered : numbered narrow_load_number 0 NARROW_LOADS ≡ true
narrow_load_numbered = refl

narrow_numbered : numbered narrow_number 0 NARROWS ≡ true
narrow_numbered = refl

comparison_numbered : numbered comparison_number 0 COMPARISONS ≡ true
comparison_numbered = refl

unary_numbered : numbered unary_number 0 UNARY ≡ true
unary_numbered = refl

binary_numbered : numbered binary_number 0 BINARY ≡ true
binary_numbered = refl

access_numbered : numbered access_number 0 ACCESSES ≡ true
access_numbered = refl

module _ {C : Type 0} (of : C → ℕ) where
  pub none_left : (c : ℕ) (i : C) → None ≡ Some i → of i ≡ c
  none_left c i e = absurd cc

  pick_by : (c k : ℕ) (x i : C) (other : Option C) (t : Bool) → eqb c k ≡ t → of x ≡ k → cond t (Some x) other ≡ Some i → (other ≡ Some i → of i ≡ c) → of i ≡ c
  pick_by c k x i other true t is e more = ap of (sym (same_Some x i e)) ∙ is ∙ sym (eqb-true c k t)
  pick_by c k x i other false t is e more = more e

  -- one code, and the instruction that it is
  pub pick : (c k : ℕ) (x i : C) (other : Option C) → of x ≡ k → cond (eqb c k) (Some x) other ≡ Some i → (other ≡ Some i → of i ≡ c) → of i ≡ c
  pick c k x i other is e more = pick_by c k x i other (eqb c k) refl is e more

  row_by : {X : Type 0} (make : X → C) (number : X → ℕ) (table : List X) (c from : ℕ) (i : C) (o : Option X) → slice_get table (c - from) ≡ o → ((x : X) → of (make x) ≡ from + number x) → numbered number 0 table ≡ true → from ≤ c → option_map make o ≡ Some i → of i ≡ c
  row_by make number table c from i None g codes is le e = absurd cc
  row_by make number table c from i (Some x) g codes is le e =
      let n = numbered_at number 0 table (c - from) x is g in
      ap of (sym (same_Some (make x) i e)) ∙ codes x ∙ omega (arith, n)

  row_test : {X : Type 0} (make : X → C) (number : X → ℕ) (table : List X) (c from : ℕ) (t : Bool) (i : C) (other : Option C) → ((x : X) → of (make x) ≡ from + number x) → numbered number 0 table ≡ true → (t ≡ true → from ≤ c)
      → cond t (option_map make (slice_get table (c - from))) other ≡ Some i → (other ≡ Some i → of i ≡ c) → of i ≡ c
  row_test make number table c from true i other codes is within e more = row_by make number table c from i (slice_get table (c - from)) refl codes is (within refl) e
  row_test make number table c from false i other codes is within e more = more e

  -- a run of codes
  pub row : {X : Type 0} (make : X → C) (number : X → ℕ) (table : List X) (c from to : ℕ) (i : C) (other : Option C) → ((x : X) → of (make x) ≡ from + number x) → numbered number 0 table ≡ true
      → cond (leb from c && leb c to) (option_map make (slice_get table (c - from))) other ≡ Some i → (other ≡ Some i → of i ≡ c) → of i ≡ c
  row make number table c from to i other codes is e more = row_test make number table c from (leb from c && leb c to) i other codes is (λ t. leb-true from c (and_parts (leb from c) (leb c to) t).0) e more

-- either of two tables
either : {C : Type 0} {P : Type 0} (t : Bool) (a b : Option C) (i : C) → cond t a b ≡ Some i → (a ≡ Some i → P) → (b ≡ Some i → P) → P
either true a b i e f g = f e
either false a b i e f g = g e

control_found : (c : ℕ) (i : Opcode) → control_at c ≡ Some i → code i ≡ c
unfolding control_at
control_found c i e =
    pick code c 0x00 (op.Plain Unreachable) i _ refl e (λ e.
    pick code c 0x01 (op.Plain Nop) i _ refl e (λ e.
    pick code c 0x02 (op.Block Block) i _ refl e (λ e.
    pick code c 0x03 (op.Block Loop) i _ refl e (λ e.
    pick code c 0x04 (op.Block If) i _ refl e (λ e.
    pick code c 0x05 (op.Plain Else) i _ refl e (λ e.
    pick code c 0x0B (op.Plain End) i _ refl e (λ e.
    pick code c 0x0C (op.Index Branch) i _ refl e (λ e.
    pick code c 0x0D (op.Index BranchIf) i _ refl e (λ e.
    pick code c 0x0E op.BranchTable i _ refl e (λ e.
    pick code c 0x0F (op.Plain Return) i _ refl e (λ e.
    pick code c 0x10 (op.Index Call) i _ refl e (λ e.
    pick code c 0x11 op.CallIndirect i _ refl e (λ e.
    pick code c 0x1A (op.Plain Discard) i _ refl e (λ e.
    pick code c 0x1B (op.Plain Select) i None refl e (none_left code c i)))))))))))))))

memory_found : (c : ℕ) (i : Opcode) → memory_at c ≡ Some i → code i ≡ c
unfolding memory_at
memory_found c i e =
    pick code c 0x20 (op.Index LocalGet) i _ refl e (λ e.
    pick code c 0x21 (op.Index LocalSet) i _ refl e (λ e.
    pick code c 0x22 (op.Index LocalTee) i _ refl e (λ e.
    pick code c 0x23 (op.Index GlobalGet) i _ refl e (λ e.
    pick code c 0x24 (op.Index GlobalSet) i _ refl e (λ e.
    pick code c 0x28 (op.Memory (mem.Load (load.Whole I32))) i _ refl e (λ e.
    pick code c 0x29 (op.Memory (mem.Load (load.Whole I64))) i _ refl e (λ e.
    row code (λ l. op.Memory (mem.Load (load.Narrow l.0 l.1))) narrow_load_number NARROW_LOADS c 0x2C 0x35 i _ (λ x. refl) narrow_load_numbered e (λ e.
    pick code c 0x36 (op.Memory (mem.Store (access.Whole I32))) i _ refl e (λ e.
    pick code c 0x37 (op.Memory (mem.Store (access.Whole I64))) i _ refl e (λ e.
    row code (λ n. op.Memory (mem.Store (access.Narrow n))) narrow_number NARROWS c 0x3A 0x3E i _ (λ x. refl) narrow_numbered e (λ e.
    pick code c 0x3F (op.Pages Size) i _ refl e (λ e.
    pick code c 0x40 (op.Pages Grow) i _ refl e (λ e.
    pick code c 0x41 (op.Const I32) i _ refl e (λ e.
    pick code c 0x42 (op.Const I64) i None refl e (none_left code c i)))))))))))))))

numeric_found : (c : ℕ) (i : Opcode) → numeric_at c ≡ Some i → code i ≡ c
unfolding numeric_at
numeric_found c i e =
    pick code c 0x45 (op.Numeric (num.IsZero I32)) i _ refl e (λ e.
    row code (λ o. op.Numeric (num.Compare I32 o)) comparison_number COMPARISONS c 0x46 0x4F i _ (λ x. refl) comparison_numbered e (λ e.
    pick code c 0x50 (op.Numeric (num.IsZero I64)) i _ refl e (λ e.
    row code (λ o. op.Numeric (num.Compare I64 o)) comparison_number COMPARISONS c 0x51 0x5A i _ (λ x. refl) comparison_numbered e (λ e.
    row code (λ o. op.Numeric (num.Unary I32 o)) unary_number UNARY c 0x67 0x69 i _ (λ x. refl) unary_numbered e (λ e.
    row code (λ o. op.Numeric (num.Binary I32 o)) binary_number BINARY c 0x6A 0x78 i _ (λ x. refl) binary_numbered e (λ e.
    row code (λ o. op.Numeric (num.Unary I64 o)) unary_number UNARY c 0x79 0x7B i _ (λ x. refl) unary_numbered e (λ e.
    row code (λ o. op.Numeric (num.Binary I64 o)) binary_number BINARY c 0x7C 0x8A i _ (λ x. refl) binary_numbered e (λ e.
    pick code c 0xA7 (op.Numeric num.Wrap) i _ refl e (λ e.
    pick code c 0xAC (op.Numeric (num.Extend Signed)) i _ refl e (λ e.
    pick code c 0xAD (op.Numeric (num.Extend Unsigned)) i _ refl e (λ e.
    row code (λ n. op.Numeric (num.ExtendLow n)) narrow_number NARROWS c 0xC0 0xC4 i _ (λ x. refl) narrow_numbered e (λ e.
    pick code c 0xFE op.Prefix i None refl e (none_left code c i)))))))))))))

pub opcode_found : (c : ℕ) (i : Opcode) → opcode_at c ≡ Some i → code i ≡ c
unfolding opcode_at
opcode_found c i e = either (ltb c 0x20) (control_at c) (cond (ltb c 0x45) (memory_at c) (numeric_at c)) i e (control_found c i) (λ e. either (ltb c 0x45) (memory_at c) (numeric_at c) i e (memory_found c i) (numeric_found c i))

pub atomic_found : (c : ℕ) (i : AtomicCode) → atomic_at c ≡ Some i → atomic_number i ≡ c
unfolding atomic_at
atomic_found c i e =
    pick atomic_number c 0x00 (at.Op atomic.Notify) i _ refl e (λ e.
    pick atomic_number c 0x01 (at.Op (atomic.Wait I32)) i _ refl e (λ e.
    pick atomic_number c 0x02 (at.Op (atomic.Wait I64)) i _ refl e (λ e.
    pick atomic_number c 0x03 at.Fence i _ refl e (λ e.
    row atomic_number (λ a. at.Op (atomic.Load a)) access_number ACCESSES c 0x10 0x16 i _ (λ x. refl) access_numbered e (λ e.
    row atomic_number (λ a. at.Op (atomic.Store a)) access_number ACCESSES c 0x17 0x1D i _ (λ x. refl) access_numbered e (λ e.
    row atomic_number (λ a. at.Op (atomic.Rmw rmw.Add a)) access_number ACCESSES c 0x1E 0x24 i _ (λ x. refl) access_numbered e (λ e.
    row atomic_number (λ a. at.Op (atomic.Rmw rmw.Subtract a)) access_number ACCESSES c 0x25 0x2B i _ (λ x. refl) access_numbered e (λ e.
    row atomic_number (λ a. at.Op (atomic.Rmw rmw.And a)) access_number ACCESSES c 0x2C 0x32 i _ (λ x. refl) access_numbered e (λ e.
    row atomic_number (λ a. at.Op (atomic.Rmw rmw.Or a)) access_number ACCESSES c 0x33 0x39 i _ (λ x. refl) access_numbered e (λ e.
    row atomic_number (λ a. at.Op (atomic.Rmw rmw.Xor a)) access_number ACCESSES c 0x3A 0x40 i _ (λ x. refl) access_numbered e (λ e.
    row atomic_number (λ a. at.Op (atomic.Rmw rmw.Exchange a)) access_number ACCESSES c 0x41 0x47 i _ (λ x. refl) access_numbered e (λ e.
    row atomic_number (λ a. at.Op (atomic.CompareExchange a)) access_number ACCESSES c 0x48 0x4E i None (λ x. refl) access_numbered e (none_left atomic_number c i)))))))))))))

pub atomic_again : (i : AtomicCode) → atomic_at (atomic_number i) ≡ Some i
unfolding atomic_at
atomic_again at.Fence = refl
atomic_again (at.Op atomic.Notify) = refl
atomic_again (at.Op (atomic.Wait I32)) = refl
atomic_again (at.Op (atomic.Wait I64)) = refl
atomic_again (at.Op (atomic.Load (access.Whole I32))) = refl
atomic_again (at.Op (atomic.Load (access.Whole I64))) = refl
atomic_again (at.Op (atomic.Load (access.Narrow I32Of8))) = refl
atomic_again (at.Op (atomic.Load (access.Narrow I32Of16))) = refl
atomic_again (at.Op (atomic.Load (access.Narrow I64Of8))) = refl
atomic_again (at.Op (atomic.Load (access.Narrow I64Of16))) = refl
atomic_again (at.Op (atomic.Load (access.Narrow I64Of32))) = refl
atomic_again (at.Op (atomic.Store (access.Whole I32))) = refl
atomic_again (at.Op (atomic.Store (access.Whole I64))) = refl
atomic_again (at.Op (atomic.Store (access.Narrow I32Of8))) = refl
atomic_again (at.Op (atomic.Store (access.Narrow I32Of16))) = refl
atomic_again (at.Op (atomic.Store (access.Narrow I64Of8))) = refl
atomic_again (at.Op (atomic.Store (access.Narrow I64Of16))) = refl
atomic_again (at.Op (atomic.Store (access.Narrow I64Of32))) = refl
atomic_again (at.Op (atomic.CompareExchange (access.Whole I32))) = refl
atomic_again (at.Op (atomic.CompareExchange (access.Whole I64))) = refl
atomic_again (at.Op (atomic.CompareExchange (access.Narrow I32Of8))) = refl
atomic_again (at.Op (atomic.CompareExchange (access.Narrow I32Of16))) = refl
atomic_again (at.Op (atomic.CompareExchange (access.Narrow I64Of8))) = refl
atomic_again (at.Op (atomic.CompareExchange (access.Narrow I64Of16))) = refl
atomic_again (at.Op (atomic.CompareExchange (access.Narrow I64Of32))) = refl
atomic_again (at.Op (atomic.Rmw rmw.Add (access.Whole I32))) = refl
atomic_again (at.Op (atomic.Rmw rmw.Add (access.Whole I64))) = refl
atomic_again (at.Op (atomic.Rmw rmw.Add (access.Narrow I32Of8))) = refl
atomic_again (at.Op (atomic.Rmw rmw.Add (access.Narrow I32Of16))) = refl
atomic_again (at.Op (atomic.Rmw rmw.Add (access.Narrow I64Of8))) = refl
atomic_again (at.Op (atomic.Rmw rmw.Add (access.Narrow I64Of16))) = refl
atomic_again (at.Op (atomic.Rmw rmw.Add (access.Narrow I64Of32))) = refl
atomic_again (at.Op (atomic.Rmw rmw.Subtract (access.Whole I32))) = refl
atomic_again (at.Op (atomic.Rmw rmw.Subtract (access.Whole I64))) = refl
atomic_again (at.Op (atomic.Rmw rmw.Subtract (access.Narrow I32Of8))) = refl
atomic_again (at.Op (atomic.Rmw rmw.Subtract (access.Narrow I32Of16))) = refl
atomic_again (at.Op (atomic.Rmw rmw.Subtract (access.Narrow I64Of8))) = refl
atomic_again (at.Op (atomic.Rmw rmw.Subtract (access.Narrow I64Of16))) = refl
atomic_again (at.Op (atomic.Rmw rmw.Subtract (access.Narrow I64Of32))) = refl
atomic_again (at.Op (atomic.Rmw rmw.And (access.Whole I32))) = refl
atomic_again (at.Op (atomic.Rmw rmw.And (access.Whole I64))) = refl
atomic_again (at.Op (atomic.Rmw rmw.And (access.Narrow I32Of8))) = refl
atomic_again (at.Op (atomic.Rmw rmw.And (access.Narrow I32Of16))) = refl
atomic_again (at.Op (atomic.Rmw rmw.And (access.Narrow I64Of8))) = refl
atomic_again (at.Op (atomic.Rmw rmw.And (access.Narrow I64Of16))) = refl
atomic_again (at.Op (atomic.Rmw rmw.And (access.Narrow I64Of32))) = refl
atomic_again (at.Op (atomic.Rmw rmw.Or (access.Whole I32))) = refl
atomic_again (at.Op (atomic.Rmw rmw.Or (access.Whole I64))) = refl
atomic_again (at.Op (atomic.Rmw rmw.Or (access.Narrow I32Of8))) = refl
atomic_again (at.Op (atomic.Rmw rmw.Or (access.Narrow I32Of16))) = refl
atomic_again (at.Op (atomic.Rmw rmw.Or (access.Narrow I64Of8))) = refl
atomic_again (at.Op (atomic.Rmw rmw.Or (access.Narrow I64Of16))) = refl
atomic_again (at.Op (atomic.Rmw rmw.Or (access.Narrow I64Of32))) = refl
atomic_again (at.Op (atomic.Rmw rmw.Xor (access.Whole I32))) = refl
atomic_again (at.Op (atomic.Rmw rmw.Xor (access.Whole I64))) = refl
atomic_again (at.Op (atomic.Rmw rmw.Xor (access.Narrow I32Of8))) = refl
atomic_again (at.Op (atomic.Rmw rmw.Xor (access.Narrow I32Of16))) = refl
atomic_again (at.Op (atomic.Rmw rmw.Xor (access.Narrow I64Of8))) = refl
atomic_again (at.Op (atomic.Rmw rmw.Xor (access.Narrow I64Of16))) = refl
atomic_again (at.Op (atomic.Rmw rmw.Xor (access.Narrow I64Of32))) = refl
atomic_again (at.Op (atomic.Rmw rmw.Exchange (access.Whole I32))) = refl
atomic_again (at.Op (atomic.Rmw rmw.Exchange (access.Whole I64))) = refl
atomic_again (at.Op (atomic.Rmw rmw.Exchange (access.Narrow I32Of8))) = refl
atomic_again (at.Op (atomic.Rmw rmw.Exchange (access.Narrow I32Of16))) = refl
atomic_again (at.Op (atomic.Rmw rmw.Exchange (access.Narrow I64Of8))) = refl
atomic_again (at.Op (atomic.Rmw rmw.Exchange (access.Narrow I64Of16))) = refl
atomic_again (at.Op (atomic.Rmw rmw.Exchange (access.Narrow I64Of32))) = refl

pub opcode_again : (i : Opcode) → opcode_at (code i) ≡ Some i
unfolding opcode_at control_at memory_at numeric_at
opcode_again (op.Plain Unreachable) = refl
opcode_again (op.Plain Nop) = refl
opcode_again (op.Plain Else) = refl
opcode_again (op.Plain End) = refl
opcode_again (op.Plain Return) = refl
opcode_again (op.Plain Discard) = refl
opcode_again (op.Plain Select) = refl
opcode_again (op.Block Block) = refl
opcode_again (op.Block Loop) = refl
opcode_again (op.Block If) = refl
opcode_again (op.Index Branch) = refl
opcode_again (op.Index BranchIf) = refl
opcode_again (op.Index Call) = refl
opcode_again (op.Index LocalGet) = refl
opcode_again (op.Index LocalSet) = refl
opcode_again (op.Index LocalTee) = refl
opcode_again (op.Index GlobalGet) = refl
opcode_again (op.Index GlobalSet) = refl
opcode_again op.BranchTable = refl
opcode_again op.CallIndirect = refl
opcode_again op.Prefix = refl
opcode_again (op.Pages Size) = refl
opcode_again (op.Pages Grow) = refl
opcode_again (op.Const I32) = refl
opcode_again (op.Const I64) = refl
opcode_again (op.Memory (mem.Load (load.Whole I32))) = refl
opcode_again (op.Memory (mem.Load (load.Whole I64))) = refl
opcode_again (op.Memory (mem.Load (load.Narrow I32Of8 Signed))) = refl
opcode_again (op.Memory (mem.Load (load.Narrow I32Of8 Unsigned))) = refl
opcode_again (op.Memory (mem.Load (load.Narrow I32Of16 Signed))) = refl
opcode_again (op.Memory (mem.Load (load.Narrow I32Of16 Unsigned))) = refl
opcode_again (op.Memory (mem.Load (load.Narrow I64Of8 Signed))) = refl
opcode_again (op.Memory (mem.Load (load.Narrow I64Of8 Unsigned))) = refl
opcode_again (op.Memory (mem.Load (load.Narrow I64Of16 Signed))) = refl
opcode_again (op.Memory (mem.Load (load.Narrow I64Of16 Unsigned))) = refl
opcode_again (op.Memory (mem.Load (load.Narrow I64Of32 Signed))) = refl
opcode_again (op.Memory (mem.Load (load.Narrow I64Of32 Unsigned))) = refl
opcode_again (op.Memory (mem.Store (access.Whole I32))) = refl
opcode_again (op.Memory (mem.Store (access.Whole I64))) = refl
opcode_again (op.Memory (mem.Store (access.Narrow I32Of8))) = refl
opcode_again (op.Memory (mem.Store (access.Narrow I32Of16))) = refl
opcode_again (op.Memory (mem.Store (access.Narrow I64Of8))) = refl
opcode_again (op.Memory (mem.Store (access.Narrow I64Of16))) = refl
opcode_again (op.Memory (mem.Store (access.Narrow I64Of32))) = refl
opcode_again (op.Numeric (num.IsZero I32)) = refl
opcode_again (op.Numeric (num.Compare I32 Equal)) = refl
opcode_again (op.Numeric (num.Compare I32 NotEqual)) = refl
opcode_again (op.Numeric (num.Compare I32 LessSigned)) = refl
opcode_again (op.Numeric (num.Compare I32 LessUnsigned)) = refl
opcode_again (op.Numeric (num.Compare I32 GreaterSigned)) = refl
opcode_again (op.Numeric (num.Compare I32 GreaterUnsigned)) = refl
opcode_again (op.Numeric (num.Compare I32 LessEqualSigned)) = refl
opcode_again (op.Numeric (num.Compare I32 LessEqualUnsigned)) = refl
opcode_again (op.Numeric (num.Compare I32 GreaterEqualSigned)) = refl
opcode_again (op.Numeric (num.Compare I32 GreaterEqualUnsigned)) = refl
opcode_again (op.Numeric (num.Unary I32 LeadingZeros)) = refl
opcode_again (op.Numeric (num.Unary I32 TrailingZeros)) = refl
opcode_again (op.Numeric (num.Unary I32 CountOnes)) = refl
opcode_again (op.Numeric (num.Binary I32 Add)) = refl
opcode_again (op.Numeric (num.Binary I32 Subtract)) = refl
opcode_again (op.Numeric (num.Binary I32 Multiply)) = refl
opcode_again (op.Numeric (num.Binary I32 DivideSigned)) = refl
opcode_again (op.Numeric (num.Binary I32 DivideUnsigned)) = refl
opcode_again (op.Numeric (num.Binary I32 RemainderSigned)) = refl
opcode_again (op.Numeric (num.Binary I32 RemainderUnsigned)) = refl
opcode_again (op.Numeric (num.Binary I32 And)) = refl
opcode_again (op.Numeric (num.Binary I32 Or)) = refl
opcode_again (op.Numeric (num.Binary I32 Xor)) = refl
opcode_again (op.Numeric (num.Binary I32 ShiftLeft)) = refl
opcode_again (op.Numeric (num.Binary I32 ShiftRightSigned)) = refl
opcode_again (op.Numeric (num.Binary I32 ShiftRightUnsigned)) = refl
opcode_again (op.Numeric (num.Binary I32 RotateLeft)) = refl
opcode_again (op.Numeric (num.Binary I32 RotateRight)) = refl
opcode_again (op.Numeric (num.IsZero I64)) = refl
opcode_again (op.Numeric (num.Compare I64 Equal)) = refl
opcode_again (op.Numeric (num.Compare I64 NotEqual)) = refl
opcode_again (op.Numeric (num.Compare I64 LessSigned)) = refl
opcode_again (op.Numeric (num.Compare I64 LessUnsigned)) = refl
opcode_again (op.Numeric (num.Compare I64 GreaterSigned)) = refl
opcode_again (op.Numeric (num.Compare I64 GreaterUnsigned)) = refl
opcode_again (op.Numeric (num.Compare I64 LessEqualSigned)) = refl
opcode_again (op.Numeric (num.Compare I64 LessEqualUnsigned)) = refl
opcode_again (op.Numeric (num.Compare I64 GreaterEqualSigned)) = refl
opcode_again (op.Numeric (num.Compare I64 GreaterEqualUnsigned)) = refl
opcode_again (op.Numeric (num.Unary I64 LeadingZeros)) = refl
opcode_again (op.Numeric (num.Unary I64 TrailingZeros)) = refl
opcode_again (op.Numeric (num.Unary I64 CountOnes)) = refl
opcode_again (op.Numeric (num.Binary I64 Add)) = refl
opcode_again (op.Numeric (num.Binary I64 Subtract)) = refl
opcode_again (op.Numeric (num.Binary I64 Multiply)) = refl
opcode_again (op.Numeric (num.Binary I64 DivideSigned)) = refl
opcode_again (op.Numeric (num.Binary I64 DivideUnsigned)) = refl
opcode_again (op.Numeric (num.Binary I64 RemainderSigned)) = refl
opcode_again (op.Numeric (num.Binary I64 RemainderUnsigned)) = refl
opcode_again (op.Numeric (num.Binary I64 And)) = refl
opcode_again (op.Numeric (num.Binary I64 Or)) = refl
opcode_again (op.Numeric (num.Binary I64 Xor)) = refl
opcode_again (op.Numeric (num.Binary I64 ShiftLeft)) = refl
opcode_again (op.Numeric (num.Binary I64 ShiftRightSigned)) = refl
opcode_again (op.Numeric (num.Binary I64 ShiftRightUnsigned)) = refl
opcode_again (op.Numeric (num.Binary I64 RotateLeft)) = refl
opcode_again (op.Numeric (num.Binary I64 RotateRight)) = refl
opcode_again (op.Numeric num.Wrap) = refl
opcode_again (op.Numeric (num.Extend Signed)) = refl
opcode_again (op.Numeric (num.Extend Unsigned)) = refl
opcode_again (op.Numeric (num.ExtendLow I32Of8)) = refl
opcode_again (op.Numeric (num.ExtendLow I32Of16)) = refl
opcode_again (op.Numeric (num.ExtendLow I64Of8)) = refl
opcode_again (op.Numeric (num.ExtendLow I64Of16)) = refl
opcode_again (op.Numeric (num.ExtendLow I64Of32)) = refl
