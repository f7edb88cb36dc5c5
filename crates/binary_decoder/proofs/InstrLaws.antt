-- Readers of instructions answer by their grammar.
use Rattle.std.proofs.Common.{◌≡◌, ℕ, zero, suc, ◌+◌, ◌≤◌, Bool, true, false, List, [], ◌∷◌, ◌++◌, length, Option, Some, None, Ok, Err, refl, sym, ap, subst, ◌∙◌, append_assoc, arith}
use Rattle.std.specs.Prelude.{MatchOption}
use Rattle.std.proofs.lemmas.List.{length-append}
use Rattle.binary_decoder.specs.Language.{Language, byte, ◌⨾◌, each, u32, vector}
use Rattle.binary_decoder.specs.Fault.{Malformed, Oversized, Reading, ◌>>=◌}
use Rattle.binary_decoder.specs.Reading.{byte_at, or_malformed, u32_at, then_at, vector_at}
use Rattle.binary_decoder.proofs.ReadAnswers.{Told, Found, Answers, Exact, always}
use Rattle.binary_decoder.proofs.ReadLaws.{then_both, as_by, byte_exact, u32_exact, free_vector, free_pair, kind_exact}
use Rattle.wasm_types.specs.Nesting.{nesting_of, opened, closes_by, closes}
use Rattle.wasm_types.specs.declared.nesting.Nesting.{Nesting}
use Rattle.wasm_types.specs.declared.nesting.Nesting.TheVariants.{Opens, OpensIf, Turns, Closes, Stays}
use Rattle.wasm_types.specs.declared.nesting.Enclosing.{Enclosing}
use Rattle.wasm_types.specs.declared.nesting.Enclosing.TheVariants.{FirstArm, Whole}
use Rattle.wasm_types.specs.declared.instruction.LabelRange.{LabelRange}
use Rattle.wasm_types.specs.declared.instruction.AtomicOp.{AtomicOp}
use Rattle.binary_decoder.specs.Opcodes.{code, atomic_number, opcode_at, atomic_at}
use Rattle.binary_decoder.specs.Grammar.{block_type, value_type, constant, mem_arg, opcode_of, operands, instr, instrs, expr}
use Rattle.binary_decoder.specs.Reader.{block_type_at, constant_at, mem_arg_at, atomic_operands_at, prefixed_at, simple_at, table_instr, branch_table_at, operands_at, instr_at, instrs_at, expr_at}
use Rattle.binary_decoder.proofs.OpcodeLaws.{opcode_found, opcode_again, atomic_found, atomic_again}
use Rattle.binary_decoder.proofs.PartLaws.{block_type_exact, constant_exact, mem_arg_exact}
use Rattle.wasm_types.specs.declared.value.ValType.{ValType}
use Rattle.wasm_types.specs.declared.instruction.MemArg.{MemArg}
use Rattle.wasm_types.specs.declared.instruction.Instr.{Instr}
use Rattle.wasm_types.specs.declared.instruction.Instr.TheVariants.{Plain, Numeric, Block, Index, BranchTable, CallIndirect, Memory, Pages, Const, Atomic, Fence}
use Rattle.binary_decoder.specs.declared.opcodes.Opcode.{Opcode}
use Rattle.binary_decoder.specs.declared.opcodes.Opcode.TheVariants as op
use Rattle.binary_decoder.specs.declared.opcodes.AtomicCode.{AtomicCode}
use Rattle.binary_decoder.specs.declared.opcodes.AtomicCode.TheVariants as at

-- an instruction, and the labels after it
abbrev pub Labelled : List ℕ → Instr × List ℕ → Language
Labelled before x = instr before x.0 x.1

-- the operands of an instruction of this opcode
abbrev Kind : List ℕ → Opcode → Instr × List ℕ → Language
Kind before o x text = (opcode_of x.0 ≡ o) × operands before x.0 x.1 text

abbrev labelled : List ℕ → Instr → List ℕ → (Instr × List ℕ) × List ℕ
labelled before i rest = ((i, before), rest)

abbrev with_labels : List ℕ → Reading Instr → Reading (Instr × List ℕ)
with_labels before r = r >>= λ i. Ok ((i.0, before), i.1)

abbrev TheTold : List ℕ → Reading (Instr × List ℕ) → Instr → List ℕ → Type 0
TheTold before r i rest = Told (always {X = Instr × List ℕ}) r (i, before) rest

found_made : {X : Type 0} (before : List ℕ) (o : Opcode) (make : X → Instr) (A : X → Language) (bytes : List ℕ) (r : Reading X) → ((x : X) (text : List ℕ) → A x text → Kind before o (make x, before) text) → Answers A always bytes r
    → Found (Kind before o) always bytes (with_labels before (r >>= λ x. Ok (make x.0, x.1)))
found_made before o make A bytes (Ok p) into f = (f.found.0, f.found.1, into p.0 f.found.0 f.found.2, tt)
found_made before o make A bytes (Err e) into f = tt

only_made : {X : Type 0} (before : List ℕ) (make : X → Instr) (A : X → Language) (bytes : List ℕ) (r : Reading X) → Answers A always bytes r → (x : X) (text rest : List ℕ) → A x text → bytes ≡ text ++ rest
    → TheTold before (with_labels before (r >>= λ y. Ok (make y.0, y.1))) (make x) rest
only_made {X} before make A bytes (Ok p) f x text rest l e = ap (λ (q : X × List ℕ). labelled before (make q.0) q.1) (f.only x text rest l e)
only_made before make A bytes (Err Malformed) f x text rest l e = f.only x text rest l e
only_made before make A bytes (Err Oversized) f x text rest l e = f.only x text rest l e

table_exact : Exact (λ (p : List ℕ × ℕ). vector u32 p.0 ⨾ u32 p.1) always (then_at (vector_at u32_at) (λ _. u32_at))
table_exact = free_pair (vector u32) u32 (vector_at u32_at) u32_at (free_vector u32 u32_at u32_exact) u32_exact

indirect_exact : Exact (λ (p : ℕ × Unit {0}). u32 p.0 ⨾ byte 0x00) always (then_at u32_at (λ _. byte_at 0x00))
indirect_exact = free_pair u32 (λ _. byte 0x00) u32_at (byte_at 0x00) u32_exact (byte_exact 0x00)

branch_found : (before bytes : List ℕ) (r : Reading (List ℕ × ℕ)) → Answers (λ (p : List ℕ × ℕ). vector u32 p.0 ⨾ u32 p.1) always bytes r → Found (Kind before op.BranchTable) always bytes (r >>= λ p. Ok ((table_instr before p.0.0 p.0.1, before ++ p.0.0), p.1))
branch_found before bytes (Ok p) f = (f.found.0, f.found.1, (refl, (p.0.0, refl, refl, refl, f.found.2)), tt)
branch_found before bytes (Err e) f = tt

branch_told : (before : List ℕ) (range : LabelRange) (default : ℕ) (after labels bytes text rest : List ℕ) → after ≡ before ++ labels → range.first ≡ length before → range.count ≡ length labels → (r : Reading (List ℕ × ℕ)) → Answers (λ (p : List ℕ × ℕ). vector u32 p.0 ⨾ u32 p.1) always bytes r
    → (vector u32 labels ⨾ u32 default) text → bytes ≡ text ++ rest → Told (always {X = Instr × List ℕ}) (r >>= λ p. Ok ((table_instr before p.0.0 p.0.1, before ++ p.0.0), p.1)) (BranchTable range default, after) rest
branch_told before range default after labels bytes text rest a first count (Ok p) f l e =
    let same : p ≡ ((labels, default), rest) = f.only (labels, default) text rest l e in
    let whole : record { first = length before; count = length labels } ≡ range = whole_range range.first range.count (length before) (length labels) first count in
    ap (λ (q : (List ℕ × ℕ) × List ℕ). table_read before q) same ∙ ap (λ (s : LabelRange). range_read s default (before ++ labels) rest) whole ∙ ap (λ (b : List ℕ). range_read range default b rest) (sym a)
  where
    range_read : LabelRange → ℕ → List ℕ → List ℕ → (Instr × List ℕ) × List ℕ
    range_read s default b rest = ((BranchTable s default, b), rest)

    table_read : List ℕ → (List ℕ × ℕ) × List ℕ → (Instr × List ℕ) × List ℕ
    table_read before q = ((table_instr before q.0.0 q.0.1, before ++ q.0.0), q.1)

    whole_range : (a b m n : ℕ) → a ≡ m → b ≡ n → (let x : LabelRange = record { first = m; count = n } in let y : LabelRange = record { first = a; count = b } in x ≡ y)
    whole_range a b m n e f = cc
branch_told before range default after labels bytes text rest a first count (Err Malformed) f l e = f.only (labels, default) text rest l e
branch_told before range default after labels bytes text rest a first count (Err Oversized) f l e = f.only (labels, default) text rest l e

branch_only : (before : List ℕ) (range : LabelRange) (default : ℕ) (after bytes text rest : List ℕ) → operands before (BranchTable range default) after text → bytes ≡ text ++ rest → Told (always {X = Instr × List ℕ}) (operands_at before op.BranchTable bytes) (BranchTable range default, after) rest
unfolding operands_at branch_table_at
branch_only before range default after bytes text rest l e =
    branch_told before range default after l.0 bytes text rest l.1 l.2 l.3 (then_at (vector_at u32_at) (λ _. u32_at) bytes) (table_exact bytes) l.4 e

-- ---- behind the prefix

atomic_arg : (before : List ℕ) (o : AtomicOp) (bytes front behind : List ℕ) → u32 (atomic_number (at.Op o)) front → bytes ≡ front ++ behind → (r : Reading MemArg) → Answers mem_arg always behind r → Found (Kind before op.Prefix) always bytes (with_labels before (r >>= λ x. Ok (Atomic o x.0, x.1)))
atomic_arg before o bytes front behind l e (Ok p) f = (front ++ f.found.0, e ∙ ap (λ (t : List ℕ). front ++ t) f.found.1 ∙ sym (append_assoc front f.found.0 p.1), (refl, (refl, record { front = front; back = f.found.0; parts = refl; is_first = l; is_second = f.found.2 })), tt)
atomic_arg before o bytes front behind l e (Err d) f = tt

atomic_fence : (before bytes front behind : List ℕ) → u32 (atomic_number at.Fence) front → bytes ≡ front ++ behind → (r : Reading (Unit {0})) → Answers (λ (_ : Unit {0}). byte 0x00) always behind r → Found (Kind before op.Prefix) always bytes (with_labels before (r >>= λ x. Ok (Fence, x.1)))
atomic_fence before bytes front behind l e (Ok p) f = (front ++ f.found.0, e ∙ ap (λ (t : List ℕ). front ++ t) f.found.1 ∙ sym (append_assoc front f.found.0 p.1), (refl, (refl, record { front = front; back = f.found.0; parts = refl; is_first = l; is_second = f.found.2 })), tt)
atomic_fence before bytes front behind l e (Err d) f = tt

atomic_found_of : (before : List ℕ) (o : AtomicCode) (bytes front behind : List ℕ) → u32 (atomic_number o) front → bytes ≡ front ++ behind → Found (Kind before op.Prefix) always bytes (with_labels before (atomic_operands_at o behind))
unfolding atomic_operands_at
atomic_found_of before (at.Op o) bytes front behind l e = atomic_arg before o bytes front behind l e (mem_arg_at behind) (mem_arg_exact behind)
atomic_found_of before at.Fence bytes front behind l e = atomic_fence before bytes front behind l e (byte_at 0x00 behind) (byte_exact 0x00 behind)

code_found : (before : List ℕ) (n : ℕ) (bytes front behind : List ℕ) → u32 n front → bytes ≡ front ++ behind → (o : Option AtomicCode) → atomic_at n ≡ o → Found (Kind before op.Prefix) always bytes (with_labels before (or_malformed o >>= λ c. atomic_operands_at c behind))
code_found before n bytes front behind l e None is = tt
code_found before n bytes front behind l e (Some o) is = atomic_found_of before o bytes front behind (subst (λ (m : ℕ). u32 m front) (sym (atomic_found n o is)) l) e

number_found : (before bytes : List ℕ) (r : Reading ℕ) → Answers u32 always bytes r → Found (Kind before op.Prefix) always bytes (with_labels before (r >>= λ n. or_malformed (atomic_at n.0) >>= λ o. atomic_operands_at o n.1))
number_found before bytes (Ok p) f = code_found before p.0 bytes f.found.0 p.1 f.found.2 f.found.1 (atomic_at p.0) refl
number_found before bytes (Err e) f = tt

told_then : (before : List ℕ) (r : Reading ℕ) (n : ℕ) (after : List ℕ) (k : ℕ × List ℕ → Reading Instr) (i : Instr) (rest : List ℕ) → Told (always {X = ℕ}) r n after → TheTold before (with_labels before (k (n, after))) i rest → TheTold before (with_labels before (r >>= k)) i rest
told_then before (Ok p) n after k i rest h g = subst (λ (q : ℕ × List ℕ). TheTold before (with_labels before (k q)) i rest) (sym h) g
told_then before (Err Malformed) n after k i rest h g = h
told_then before (Err Oversized) n after k i rest h g = h

atomic_told : (before : List ℕ) (o : AtomicCode) (i : Instr) (bytes rest behind front : List ℕ) → u32 (atomic_number o) front → bytes ≡ front ++ behind → TheTold before (with_labels before (atomic_operands_at o behind)) i rest → TheTold before (with_labels before (prefixed_at bytes)) i rest
unfolding prefixed_at
atomic_told before o i bytes rest behind front l e h =
    told_then before (u32_at bytes) (atomic_number o) behind (λ n. or_malformed (atomic_at n.0) >>= λ c. atomic_operands_at c n.1) i rest ((u32_exact bytes).only (atomic_number o) front behind l e) (rw (atomic_again o) h)

-- ---- an instruction

operands_found : (before : List ℕ) (o : Opcode) (bytes : List ℕ) → Found (Kind before o) always bytes (operands_at before o bytes)
unfolding operands_at simple_at prefixed_at branch_table_at
operands_found before (op.Plain i) bytes = ([], refl, (refl, (refl, refl)), tt)
operands_found before (op.Numeric i) bytes = ([], refl, (refl, (refl, refl)), tt)
operands_found before (op.Block k) bytes = found_made before (op.Block k) (Block k) block_type bytes (block_type_at bytes) (λ x text l. (refl, (refl, l))) (block_type_exact bytes)
operands_found before (op.Index i) bytes = found_made before (op.Index i) (Index i) u32 bytes (u32_at bytes) (λ x text l. (refl, (refl, l))) (u32_exact bytes)
operands_found before op.BranchTable bytes = branch_found before bytes (then_at (vector_at u32_at) (λ _. u32_at) bytes) (table_exact bytes)
operands_found before op.CallIndirect bytes = found_made before op.CallIndirect (λ (p : ℕ × Unit {0}). CallIndirect p.0) (λ p. u32 p.0 ⨾ byte 0x00) bytes (then_at u32_at (λ _. byte_at 0x00) bytes) (λ x text l. (refl, (refl, l))) (indirect_exact bytes)
operands_found before (op.Memory i) bytes = found_made before (op.Memory i) (Memory i) mem_arg bytes (mem_arg_at bytes) (λ x text l. (refl, (refl, l))) (mem_arg_exact bytes)
operands_found before (op.Pages i) bytes = found_made before (op.Pages i) (λ (_ : Unit {0}). Pages i) (λ _. byte 0x00) bytes (byte_at 0x00 bytes) (λ x text l. (refl, (refl, l))) (byte_exact 0x00 bytes)
operands_found before (op.Const t) bytes = found_made before (op.Const t) Const (λ v text. (value_type v ≡ t) × constant v text) bytes (constant_at t bytes) (λ v text l. (ap (λ (t : ValType). op.Const t) l.0, (refl, l.1))) (constant_exact t bytes)
operands_found before op.Prefix bytes = number_found before bytes (u32_at bytes) (u32_exact bytes)

operands_only : (before : List ℕ) (i : Instr) (bytes text rest : List ℕ) → operands before i before text → bytes ≡ text ++ rest → TheTold before (operands_at before (opcode_of i) bytes) i rest
unfolding operands_at simple_at prefixed_at atomic_operands_at
operands_only before (Plain i) bytes text rest l e = ap (λ (r : List ℕ). labelled before (Plain i) r) (e ∙ ap (λ (t : List ℕ). t ++ rest) l.1)
operands_only before (Numeric i) bytes text rest l e = ap (λ (r : List ℕ). labelled before (Numeric i) r) (e ∙ ap (λ (t : List ℕ). t ++ rest) l.1)
operands_only before (Block k t) bytes text rest l e = only_made before (Block k) block_type bytes (block_type_at bytes) (block_type_exact bytes) t text rest l.1 e
operands_only before (Index i n) bytes text rest l e = only_made before (Index i) u32 bytes (u32_at bytes) (u32_exact bytes) n text rest l.1 e
operands_only before (BranchTable range default) bytes text rest l e = branch_only before range default before bytes text rest l e
operands_only before (CallIndirect t) bytes text rest l e = only_made before (λ (p : ℕ × Unit {0}). CallIndirect p.0) (λ p. u32 p.0 ⨾ byte 0x00) bytes (then_at u32_at (λ _. byte_at 0x00) bytes) (indirect_exact bytes) (t, tt) text rest l.1 e
operands_only before (Memory i a) bytes text rest l e = only_made before (Memory i) mem_arg bytes (mem_arg_at bytes) (mem_arg_exact bytes) a text rest l.1 e
operands_only before (Pages i) bytes text rest l e = only_made before (λ (_ : Unit {0}). Pages i) (λ _. byte 0x00) bytes (byte_at 0x00 bytes) (byte_exact 0x00 bytes) tt text rest l.1 e
operands_only before (Const v) bytes text rest l e = only_made before Const (λ w text. (value_type w ≡ value_type v) × constant w text) bytes (constant_at (value_type v) bytes) (constant_exact (value_type v) bytes) v text rest (refl, l.1) e
operands_only before (Atomic o a) bytes text rest l e =
    let e2 : bytes ≡ l.1.front ++ (l.1.back ++ rest) = e ∙ ap (λ (t : List ℕ). t ++ rest) l.1.parts ∙ append_assoc l.1.front l.1.back rest in
    atomic_told before (at.Op o) (Atomic o a) bytes rest (l.1.back ++ rest) l.1.front l.1.is_first e2 (only_made before (Atomic o) mem_arg (l.1.back ++ rest) (mem_arg_at (l.1.back ++ rest)) (mem_arg_exact (l.1.back ++ rest)) a l.1.back rest l.1.is_second refl)
operands_only before Fence bytes text rest l e =
    let e2 : bytes ≡ l.1.front ++ (l.1.back ++ rest) = e ∙ ap (λ (t : List ℕ). t ++ rest) l.1.parts ∙ append_assoc l.1.front l.1.back rest in
    atomic_told before at.Fence Fence bytes rest (l.1.back ++ rest) l.1.front l.1.is_first e2 (only_made before (λ (_ : Unit {0}). Fence) (λ _. byte 0x00) (l.1.back ++ rest) (byte_at 0x00 (l.1.back ++ rest)) (byte_exact 0x00 (l.1.back ++ rest)) tt l.1.back rest l.1.is_second refl)

-- the labels after an instruction that has none are those before it
any_only : (before : List ℕ) (i : Instr) (after bytes text rest : List ℕ) → operands before i after text → bytes ≡ text ++ rest → Told always (operands_at before (opcode_of i) bytes) (i, after) rest
any_only before (BranchTable range default) after bytes text rest l e = branch_only before range default after bytes text rest l e
any_only before (Plain i) after bytes text rest l e = subst (λ (ls : List ℕ). Told always (operands_at before (opcode_of (Plain i)) bytes) (Plain i, ls) rest) (sym l.0) (operands_only before (Plain i) bytes text rest (refl, l.1) e)
any_only before (Numeric i) after bytes text rest l e = subst (λ (ls : List ℕ). Told always (operands_at before (opcode_of (Numeric i)) bytes) (Numeric i, ls) rest) (sym l.0) (operands_only before (Numeric i) bytes text rest (refl, l.1) e)
any_only before (Block k t) after bytes text rest l e = subst (λ (ls : List ℕ). Told always (operands_at before (opcode_of (Block k t)) bytes) (Block k t, ls) rest) (sym l.0) (operands_only before (Block k t) bytes text rest (refl, l.1) e)
any_only before (Index i n) after bytes text rest l e = subst (λ (ls : List ℕ). Told always (operands_at before (opcode_of (Index i n)) bytes) (Index i n, ls) rest) (sym l.0) (operands_only before (Index i n) bytes text rest (refl, l.1) e)
any_only before (CallIndirect t) after bytes text rest l e = subst (λ (ls : List ℕ). Told always (operands_at before (opcode_of (CallIndirect t)) bytes) (CallIndirect t, ls) rest) (sym l.0) (operands_only before (CallIndirect t) bytes text rest (refl, l.1) e)
any_only before (Memory i a) after bytes text rest l e = subst (λ (ls : List ℕ). Told always (operands_at before (opcode_of (Memory i a)) bytes) (Memory i a, ls) rest) (sym l.0) (operands_only before (Memory i a) bytes text rest (refl, l.1) e)
any_only before (Pages i) after bytes text rest l e = subst (λ (ls : List ℕ). Told always (operands_at before (opcode_of (Pages i)) bytes) (Pages i, ls) rest) (sym l.0) (operands_only before (Pages i) bytes text rest (refl, l.1) e)
any_only before (Const v) after bytes text rest l e = subst (λ (ls : List ℕ). Told always (operands_at before (opcode_of (Const v)) bytes) (Const v, ls) rest) (sym l.0) (operands_only before (Const v) bytes text rest (refl, l.1) e)
any_only before (Atomic o a) after bytes text rest l e = subst (λ (ls : List ℕ). Told always (operands_at before (opcode_of (Atomic o a)) bytes) (Atomic o a, ls) rest) (sym l.0) (operands_only before (Atomic o a) bytes text rest (refl, l.1) e)
any_only before Fence after bytes text rest l e = subst (λ (ls : List ℕ). Told always (operands_at before (opcode_of Fence) bytes) (Fence, ls) rest) (sym l.0) (operands_only before Fence bytes text rest (refl, l.1) e)

pub instr_exact : (before : List ℕ) → Exact (Labelled before) always (instr_at before)
unfolding instr_at
instr_exact before = kind_exact code opcode_at opcode_again opcode_found (λ (x : Instr × List ℕ). opcode_of x.0) (λ (x : Instr × List ℕ). operands before x.0 x.1) always (operands_at before) (operands_found before) (λ x bytes text rest l e. any_only before x.0 x.1 bytes text rest l e)

-- ---- each label has a byte at least

each_fits : (ns : List ℕ) (text : List ℕ) → each u32 ns text → length ns ≤ length text
each_fits [] text l = omega arith
each_fits (n ∷ ns) text l =
    let len : length text ≡ length l.front + length l.back = ap length l.parts ∙ length-append l.front l.back in
    let one : 1 ≤ length l.front = not_empty n l.front l.is_first in
    let ih : length ns ≤ length l.back = each_fits ns l.back l.is_second in
    omega arith
  where
    not_empty : (n : ℕ) (text : List ℕ) → u32 n text → 1 ≤ length text
    not_empty n [] l = absurd l
    not_empty n (b ∷ bs) l = omega arith

table_fits : (labels : List ℕ) (default : ℕ) (text : List ℕ) → (vector u32 labels ⨾ u32 default) text → length labels ≤ length text
table_fits labels default text l =
    let a : length text ≡ length l.front + length l.back = ap length l.parts ∙ length-append l.front l.back in
    let b : length l.front ≡ length l.is_first.front + length l.is_first.back = ap length l.is_first.parts ∙ length-append l.is_first.front l.is_first.back in
    let c = each_fits labels l.is_first.back l.is_first.is_second in
    omega arith

operands_fit : (before : List ℕ) (i : Instr) (after text : List ℕ) → operands before i after text → length after ≤ length before + length text
operands_fit before (BranchTable range default) after text l =
    let a : length after ≡ length before + length l.0 = ap length l.1 ∙ length-append before l.0 in
    omega (arith, table_fits l.0 default text l.4)
operands_fit before (Plain i) after text l = omega (arith, ap length l.0)
operands_fit before (Numeric i) after text l = omega (arith, ap length l.0)
operands_fit before (Block k t) after text l = omega (arith, ap length l.0)
operands_fit before (Index i n) after text l = omega (arith, ap length l.0)
operands_fit before (CallIndirect t) after text l = omega (arith, ap length l.0)
operands_fit before (Memory i a) after text l = omega (arith, ap length l.0)
operands_fit before (Pages i) after text l = omega (arith, ap length l.0)
operands_fit before (Const v) after text l = omega (arith, ap length l.0)
operands_fit before (Atomic o a) after text l = omega (arith, ap length l.0)
operands_fit before Fence after text l = omega (arith, ap length l.0)

pub labels_fit : (before bytes : List ℕ) (i : Instr) (after rest : List ℕ) → instr_at before bytes ≡ Ok ((i, after), rest) → length after + length rest ≤ length before + length bytes
labels_fit before bytes i after rest e =
    let found : Found (Labelled before) always bytes (Ok ((i, after), rest)) = subst (Found (Labelled before) always bytes) e (instr_exact before bytes).found in
    let l = found.2 in
    let a : length bytes ≡ length found.0 + length rest = ap length found.1 ∙ length-append found.0 rest in
    let b : length found.0 ≡ length l.front + length l.back = ap length l.parts ∙ length-append l.front l.back in
    omega (arith, operands_fit before i after l.back l.is_second)

-- ---- instructions that close what is open

abbrev pub Closing : List ℕ → List Enclosing → List Instr × List ℕ → Language
Closing before es p text = (closes p.0 es ≡ true) × instrs before p.0 p.1 text

abbrev Behind : List ℕ → Option (List Enclosing) → List Instr × List ℕ → Language
Behind between m p text = MatchOption m ⊥ (λ after. Closing between after p text)

-- what is still to be closed closes, where it nests so far
abbrev still_closes : Option (List Enclosing) → (List Enclosing → Bool) → Bool
still_closes None later = false
still_closes (Some after) later = later after

closes_opened : (n : Nesting) (later : List Enclosing → Bool) (e : Enclosing) (es : List Enclosing) → closes_by n later (e ∷ es) ≡ still_closes (opened n (e ∷ es)) later
closes_opened Opens later e es = refl
closes_opened OpensIf later e es = refl
closes_opened Turns later FirstArm es = refl
closes_opened Turns later Whole es = refl
closes_opened Closes later e es = refl
closes_opened Stays later e es = refl

behind_by : (n : ℕ) (between rest : List ℕ) → ((after : List Enclosing) → Answers (Closing between after) always rest (instrs_at n between after rest)) → (m : Option (List Enclosing)) → Answers (Behind between m) always rest (or_malformed m >>= λ after. instrs_at n between after rest)
behind_by n between rest ih None = record { found = tt; only = λ p text after l e. l }
behind_by n between rest ih (Some after) = ih after

closes_from : (between : List ℕ) (m : Option (List Enclosing)) (p : List Instr × List ℕ) (text : List ℕ) → Behind between m p text → (still_closes m (closes p.0) ≡ true) × instrs between p.0 p.1 text
closes_from between None p text h = absurd h
closes_from between (Some after) p text h = h

behind_from : (between : List ℕ) (m : Option (List Enclosing)) (p : List Instr × List ℕ) (text : List ℕ) → still_closes m (closes p.0) ≡ true → instrs between p.0 p.1 text → Behind between m p text
behind_from between None p text h l = absurd cc
behind_from between (Some after) p text h l = (h, l)

shorter : (before : List ℕ) (x : Instr × List ℕ) (n : ℕ) (bytes text rest : List ℕ) → Labelled before x text → bytes ≡ text ++ rest → length bytes ≤ suc n → length rest ≤ n
shorter before x n bytes text rest l e le =
    let a : length bytes ≡ length text + length rest = ap length e ∙ length-append text rest in
    let b : length text ≡ length l.front + length l.back = ap length l.parts ∙ length-append l.front l.back in
    let c : length l.front ≡ 1 = ap length l.is_first in
    omega arith

abbrev Stepped : List ℕ → Enclosing → List Enclosing → (Instr × List ℕ) × (List Instr × List ℕ) → Language
Stepped before e es p = Labelled before p.0 ⨾ Behind p.0.1 (opened (nesting_of p.0.0) (e ∷ es)) p.1

closing_in : (before : List ℕ) (e : Enclosing) (es : List Enclosing) (p : (Instr × List ℕ) × (List Instr × List ℕ)) (text : List ℕ) → Stepped before e es p text → Closing before (e ∷ es) (p.0.0 ∷ p.1.0, p.1.1) text
closing_in before e es p text l =
    let c = closes_from p.0.1 (opened (nesting_of p.0.0) (e ∷ es)) p.1 l.back l.is_second in
    (closes_opened (nesting_of p.0.0) (closes p.1.0) e es ∙ c.0, (p.0.1, record { front = l.front; back = l.back; parts = l.parts; is_first = l.is_first; is_second = c.1 }))

closing_out : (before : List ℕ) (e : Enclosing) (es : List Enclosing) (is : List Instr) (after text : List ℕ) → Closing before (e ∷ es) (is, after) text
    → (p : (Instr × List ℕ) × (List Instr × List ℕ)) × Stepped before e es p text × (◌≡◌ {A = List Instr × List ℕ} (p.0.0 ∷ p.1.0, p.1.1) (is, after)) × (Unit {0} → Unit {0} × Unit {0})
closing_out before e es [] after text l = absurd (let k = l.0 in cc)
closing_out before e es (i ∷ is) after text l =
    (((i, l.1.0), (is, after)), record { front = l.1.1.front; back = l.1.1.back; parts = l.1.1.parts; is_first = l.1.1.is_first; is_second = behind_from l.1.0 (opened (nesting_of i) (e ∷ es)) (is, after) l.1.1.back (sym (closes_opened (nesting_of i) (closes is) e es) ∙ l.0) l.1.1.is_second }, refl, λ w. (tt, tt))

all_closed : (before bytes : List ℕ) (is : List Instr) (after text rest : List ℕ) → Closing before [] (is, after) text → bytes ≡ text ++ rest → ◌≡◌ {A = (List Instr × List ℕ) × List ℕ} (([], before), bytes) ((is, after), rest)
all_closed before bytes [] after text rest l e =
    let k : bytes ≡ rest = e ∙ ap (λ (t : List ℕ). t ++ rest) l.1.1 in
    let m : before ≡ after = sym l.1.0 in
    cc
all_closed before bytes (i ∷ is) after text rest l e = absurd (closed_none (nesting_of i) (closes is) l.0)
  where
    closed_none : (n : Nesting) (later : List Enclosing → Bool) → closes_by n later [] ≡ true → ⊥
    closed_none n later h = absurd cc

still_open : (before : List ℕ) (e : Enclosing) (es : List Enclosing) (bytes : List ℕ) → length bytes ≤ 0 → (is : List Instr) (after text rest : List ℕ) → Closing before (e ∷ es) (is, after) text → bytes ≡ text ++ rest → ⊥
still_open before e es bytes le [] after text rest l h = absurd (let k = l.0 in cc)
still_open before e es bytes le (i ∷ is) after text rest l h =
    let a : length bytes ≡ length text + length rest = ap length h ∙ length-append text rest in
    let b : length text ≡ length l.1.1.front + length l.1.1.back = ap length l.1.1.parts ∙ length-append l.1.1.front l.1.1.back in
    let c : length l.1.1.front ≡ length l.1.1.is_first.front + length l.1.1.is_first.back = ap length l.1.1.is_first.parts ∙ length-append l.1.1.is_first.front l.1.1.is_first.back in
    let d : length l.1.1.is_first.front ≡ 1 = ap length l.1.1.is_first.is_first in
    absurd (omega arith)

pub instrs_exact : (n : ℕ) (before : List ℕ) (es : List Enclosing) (bytes : List ℕ) → length bytes ≤ n → Answers (Closing before es) always bytes (instrs_at n before es bytes)
unfolding instrs_at
instrs_exact n before [] bytes le = record { found = ([], refl, (refl, (refl, refl)), tt); only = λ p text rest l e. all_closed before bytes p.0 p.1 text rest l e }
instrs_exact zero before (o ∷ es) bytes le = record { found = tt; only = λ p text rest l e. still_open before o es bytes le p.0 p.1 text rest l e }
instrs_exact (suc n) before (o ∷ es) bytes le =
    as_by (λ (p : (Instr × List ℕ) × (List Instr × List ℕ)). (p.0.0 ∷ p.1.0, p.1.1)) (Stepped before o es) (λ p. Unit {0} × Unit {0}) (Closing before (o ∷ es)) always bytes
    (then_at (instr_at before) (λ i rest. or_malformed (opened (nesting_of i.0) (o ∷ es)) >>= λ after. instrs_at n i.1 after rest) bytes)
    (closing_in before o es)
    (λ p w. tt)
    (λ p text l. closing_out before o es p.0 p.1 text l)
    (then_both (Labelled before) (λ i. Behind i.1 (opened (nesting_of i.0) (o ∷ es))) always (λ i. always) (instr_at before bytes) (λ i rest. or_malformed (opened (nesting_of i.0) (o ∷ es)) >>= λ after. instrs_at n i.1 after rest) bytes (instr_exact before bytes)
    (λ i text rest l w e. behind_by n i.1 rest (λ after. instrs_exact n i.1 after rest (shorter before i n bytes text rest l e le)) (opened (nesting_of i.0) (o ∷ es))))

pub expr_exact : Exact (λ (p : List Instr × List ℕ). expr p.0 p.1) always expr_at
expr_exact bytes = instrs_exact (length bytes) [] (Whole ∷ []) bytes (omega arith)
