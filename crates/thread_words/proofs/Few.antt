-- A checked function has at most as many operands as there are instructions before its place.
use Rattle.std.proofs.Common.{◌≡◌, ℕ, zero, suc, ◌+◌, ◌≤◌, Bool, true, false, List, [], ◌∷◌, ◌++◌, Option, Some, None, refl, ◌∙◌, ap, subst, take, length, reverse, slice_get, arith, length-append}
use Rattle.std.proofs.lemmas.Bool.{leb-true}
use Rattle.std.proofs.lemmas.List.{length-reverse, length-take}
use Rattle.wasm_types.specs.declared.value.Value.{Value}
use Rattle.wasm_types.specs.declared.value.ValType.{ValType}
use Rattle.wasm_types.specs.declared.value.ValType.TheVariants.{I32}
use Rattle.wasm_types.specs.declared.modules.Module.{Module}
use Rattle.wasm_types.specs.declared.modules.FuncType.{FuncType}
use Rattle.wasm_types.specs.declared.modules.Global.{Global}
use Rattle.wasm_types.specs.declared.modules.Body.{Body}
use Rattle.wasm_types.specs.declared.nesting.Enclosing.TheVariants.{Whole}
use Rattle.wasm_types.specs.declared.instruction.Instr.{Instr}
use Rattle.wasm_types.specs.declared.instruction.Instr.TheVariants as instr
use Rattle.wasm_types.specs.declared.instruction.Plain.TheVariants.{Unreachable, Nop, Else, End, Return, Discard, Select}
use Rattle.wasm_types.specs.declared.instruction.Numeric.{Numeric}
use Rattle.wasm_types.specs.declared.instruction.Numeric.TheVariants.{IsZero, Compare, Unary, Binary, Wrap, Extend, ExtendLow}
use Rattle.wasm_types.specs.declared.instruction.BlockKind.TheVariants.{Block, Loop, If}
use Rattle.wasm_types.specs.declared.instruction.IndexOp.TheVariants.{Branch, BranchIf, Call, LocalGet, LocalSet, LocalTee, GlobalGet, GlobalSet}
use Rattle.wasm_types.specs.declared.instruction.MemoryOp.{MemoryOp}
use Rattle.wasm_types.specs.declared.instruction.MemoryOp.TheVariants as memory
use Rattle.wasm_types.specs.declared.instruction.PagesOp.TheVariants.{Size, Grow}
use Rattle.wasm_types.specs.declared.instruction.AtomicOp.{AtomicOp}
use Rattle.wasm_types.specs.declared.instruction.AtomicOp.TheVariants as atomic
use Rattle.wasm_types.specs.Accesses.{access_exponent, load_access, atomic_exponent}
use Rattle.std.specs.Prelude.{nat_le, nat_eq}
use Rattle.validator.specs.Context.{Context, function_type, has_memory, has_table, labels_in}
use Rattle.validator.specs.Module.{rules, types_fit, has_one_result}
use Rattle.validator.specs.Table.{Class, Fixed, Discards, Selects, Leaves, Enters, Turning, Ending, Wrong, if_some, if_true, seq, class_of, all_take, table_class, memory_class, atomic_operands}
use Rattle.validator.specs.Walk.{Operand, Frame, walk, step, step_by, start, at_frames, labels_of, give, opened, known, with_stack, made_unreachable, pop_one, pop_all, pop_any, select_by, meet, agrees, then_if, both, may_turn, may_end, closed}
use Rattle.validator.specs.Standing.{flat}
use Rattle.validator.proofs.Ruled.{both as both_parts, all_at, kind_has_one_result}
use Rattle.validator.proofs.Sound.{there, allowed}
use Rattle.thread_words.specs.Activation.{Label, types}
use Rattle.thread_words.specs.Fits.{Fits}
use Rattle.thread_words.specs.Thread.{Function, given, function_at, context}
use Rattle.thread_words.specs.ThreadFits.{OperandsAreFew}
use Rattle.thread_words.proofs.Frames.{types_length}

-- ---- types with at most one result

-- each type of a module has at most one result
abbrev OneResult : Module → Type 0
OneResult m = (index : ℕ) (kind : FuncType) → slice_get m.types index ≡ Some kind → length kind.results ≤ 1

types_rule : (m : Module) → rules m ≡ true → types_fit m ≡ true
types_rule m h =
    let a6 = both_parts _ _ h in
    let a5 = both_parts _ _ a6.0 in
    let a4 = both_parts _ _ a5.0 in
    let a3 = both_parts _ _ a4.0 in
    let a2 = both_parts _ _ a3.0 in
    let a1 = both_parts _ _ a2.0 in
    let a0 = both_parts _ _ a1.0 in
    (both_parts _ _ a0.0).0

one_result : (m : Module) → rules m ≡ true → OneResult m
one_result m h index kind e = leb-true (length kind.results) 1 (all_at has_one_result m.types index kind (types_rule m h) e)

-- ---- classes that give at most one operand

abbrev GivesFew : Class → Type 0
GivesFew (Fixed takes gives) = length gives ≤ 1
GivesFew (Enters takes enclosing label result) = (length label ≤ 1) × (length result ≤ 1)
GivesFew Discards = Unit {0}
GivesFew Selects = Unit {0}
GivesFew (Leaves takes) = Unit {0}
GivesFew Turning = Unit {0}
GivesFew Ending = Unit {0}
GivesFew Wrong = Unit {0}

-- labels take at most one operand, and blocks leave at most one
abbrev FewIn : List Frame → Type 0
FewIn [] = Unit {0}
FewIn (w ∷ ws) = (length w.label ≤ 1) × (length w.result ≤ 1) × FewIn ws

none_few : 0 ≤ 1
none_few = omega arith

one_few : 1 ≤ 1
one_few = omega arith

seq_few : (t : Option ValType) → length (seq t) ≤ 1
seq_few None = none_few
seq_few (Some t) = one_few

if_true_few : (b : Bool) (k : Class) → GivesFew k → GivesFew (if_true b k)
if_true_few true k h = h
if_true_few false k h = tt

if_some_few : {X : Type 0} (o : Option X) (f : X → Class) → ((x : X) → o ≡ Some x → GivesFew (f x)) → GivesFew (if_some o f)
if_some_few None f h = tt
if_some_few (Some x) f h = h x refl

label_few : (ws : List Frame) (l : ℕ) (takes : List ValType) → FewIn ws → slice_get (labels_of ws) l ≡ Some takes → length takes ≤ 1
label_few [] l takes k h = cc
label_few (w ∷ ws) zero takes k h = let e : w.label ≡ takes = cc in subst (λ x. length x ≤ 1) e k.0
label_few (w ∷ ws) (suc l) takes k h = label_few ws l takes k.2 h

numeric_few : (c : Context) (n : Numeric) → GivesFew (class_of c (instr.Numeric n))
numeric_few c (IsZero t) = one_few
numeric_few c (Compare t op) = one_few
numeric_few c (Unary t op) = one_few
numeric_few c (Binary t op) = one_few
numeric_few c Wrap = one_few
numeric_few c (Extend extension) = one_few
numeric_few c (ExtendLow narrow) = one_few

memory_few : (op : MemoryOp) (align : ℕ) → GivesFew (memory_class op align)
memory_few (memory.Load l) align = if_true_few (nat_le align (access_exponent (load_access l))) _ one_few
memory_few (memory.Store a) align = if_true_few (nat_le align (access_exponent a)) _ none_few

operands_few : (op : AtomicOp) → GivesFew (atomic_operands op)
operands_few atomic.Notify = one_few
operands_few (atomic.Wait t) = one_few
operands_few (atomic.Load a) = one_few
operands_few (atomic.Store a) = none_few
operands_few (atomic.Rmw op a) = one_few
operands_few (atomic.CompareExchange a) = one_few

table_few : (c : Context) (o : Option (List ℕ)) (default : ℕ) → GivesFew (table_class c o default)
table_few c None default = tt
table_few c (Some labels) default = if_some_few (slice_get c.labels default) _ (λ takes e. if_true_few (all_take c.labels takes labels) (Leaves (takes ++ I32 ∷ [])) tt)

class_few : (c : Context) (ws : List Frame) (i : Instr) → rules c.within ≡ true → FewIn ws → GivesFew (class_of (at_frames c ws) i)
class_few c ws (instr.Plain Unreachable) r k = tt
class_few c ws (instr.Plain Nop) r k = none_few
class_few c ws (instr.Plain Else) r k = tt
class_few c ws (instr.Plain End) r k = tt
class_few c ws (instr.Plain Return) r k = tt
class_few c ws (instr.Plain Discard) r k = tt
class_few c ws (instr.Plain Select) r k = tt
class_few c ws (instr.Numeric n) r k = numeric_few (at_frames c ws) n
class_few c ws (instr.Block Block t) r k = (seq_few t, seq_few t)
class_few c ws (instr.Block Loop t) r k = (none_few, seq_few t)
class_few c ws (instr.Block If t) r k = (seq_few t, seq_few t)
class_few c ws (instr.Index Branch l) r k = if_some_few (slice_get (labels_of ws) l) _ (λ takes e. tt)
class_few c ws (instr.Index BranchIf l) r k = if_some_few (slice_get (labels_of ws) l) _ (λ takes e. label_few ws l takes k e)
class_few c ws (instr.Index Call f) r k = if_some_few (function_type c.within f) _ (λ kind e. kind_has_one_result c.within f kind r e)
class_few c ws (instr.Index LocalGet x) r k = if_some_few (slice_get c.locals x) _ (λ t e. one_few)
class_few c ws (instr.Index LocalSet x) r k = if_some_few (slice_get c.locals x) _ (λ t e. none_few)
class_few c ws (instr.Index LocalTee x) r k = if_some_few (slice_get c.locals x) _ (λ t e. one_few)
class_few c ws (instr.Index GlobalGet x) r k = if_some_few (slice_get c.within.globals x) _ (λ g e. one_few)
class_few c ws (instr.Index GlobalSet x) r k = if_some_few (slice_get c.within.globals x) _ (λ (g : Global) e. if_true_few g.mutable (Fixed (g.val_type ∷ []) []) none_few)
class_few c ws (instr.BranchTable range default) r k = table_few (at_frames c ws) (labels_in c.table_labels range) default
class_few c ws (instr.CallIndirect index) r k =
    if_true_few (has_table c.within) _ (if_some_few (slice_get c.within.types index) _ (λ kind e. one_result c.within r index kind e))
class_few c ws (instr.Memory op arg) r k = if_true_few (has_memory c.within) _ (memory_few op arg.align)
class_few c ws (instr.Pages Size) r k = if_true_few (has_memory c.within) _ one_few
class_few c ws (instr.Pages Grow) r k = if_true_few (has_memory c.within) _ one_few
class_few c ws (instr.Const v) r k = one_few
class_few c ws (instr.Atomic op arg) r k = if_true_few (has_memory c.within) _ (if_true_few (nat_eq arg.align (atomic_exponent op)) _ (operands_few op))
class_few c ws instr.Fence r k = none_few

-- ---- what is popped leaves fewer

pop_one_few : (u : Bool) (t : ValType) (os left : List Operand) → pop_one u t os ≡ Some left → length left ≤ length os
pop_one_few u t [] left h = let q = allowed u [] left h in subst (λ x. length x ≤ 0) q.1 (omega arith)
pop_one_few u t (o ∷ os) left h = let q = allowed (agrees t o) os left h in subst (λ x. length x ≤ suc (length os)) q.1 (omega arith)

pop_all_few : (u : Bool) (ts : List ValType) (os left : List Operand) → pop_all u ts os ≡ Some left → length left ≤ length os
pop_all_few u [] os left h = let q : os ≡ left = cc in subst (λ x. length x ≤ length os) q (omega arith)
pop_all_few u (t ∷ ts) os left h =
    let p = there (pop_one u t os) (pop_all u ts) left h in
    let a = pop_one_few u t os p.0 p.1 in
    let b = pop_all_few u ts p.0 left p.2 in
    omega arith

pop_any_few : (u : Bool) (os : List Operand) (p : Operand × List Operand) → pop_any u os ≡ Some p → length p.1 ≤ length os
pop_any_few true [] p h = let q : (None, []) ≡ p = cc in subst (λ (x : Operand × List Operand). length x.1 ≤ 0) q (omega arith)
pop_any_few false [] p h = cc
pop_any_few true (o ∷ os) p h = let q : (o, os) ≡ p = cc in subst (λ (x : Operand × List Operand). length x.1 ≤ suc (length os)) q (omega arith)
pop_any_few false (o ∷ os) p h = let q : (o, os) ≡ p = cc in subst (λ (x : Operand × List Operand). length x.1 ≤ suc (length os)) q (omega arith)

select_few : (u : Bool) (os left : List Operand) → select_by u os ≡ Some left → length left ≤ suc (length os)
select_few u os left h =
    let p = there (pop_any u os) (λ p. then_if (pop_any u p.1) (λ q. then_if (meet p.0 q.0) (λ o. Some (o ∷ q.1)))) left h in
    let q = there (pop_any u p.0.1) (λ q. then_if (meet p.0.0 q.0) (λ o. Some (o ∷ q.1))) left p.2 in
    let o = there (meet p.0.0 q.0.0) (λ o. Some (o ∷ q.0.1)) left q.2 in
    let a = pop_any_few u os p.0 p.1 in
    let b = pop_any_few u p.0.1 q.0 q.1 in
    put_few o.0 q.0.1 left (suc (length os)) o.2 (omega (arith, a, b))
  where
    put_few : (o : Operand) (rest left : List Operand) (n : ℕ) → Some (o ∷ rest) ≡ Some left → suc (length rest) ≤ n → length left ≤ n
    put_few o rest left n e h = let q : o ∷ rest ≡ left = cc in subst (λ x. length x ≤ n) q h

known_length : (ts : List ValType) → length (known ts) ≡ length ts
known_length [] = refl
known_length (t ∷ ts) = ap suc (known_length ts)

-- ---- one instruction

-- frames after an instruction: at most one operand more
abbrev Grows : List Frame → ℕ → Type 0
Grows gs n = FewIn gs × (length (flat gs) ≤ suc n)

grows_to : (x gs : List Frame) (n : ℕ) → Some x ≡ Some gs → Grows x n → Grows gs n
grows_to x gs n e k = let q : x ≡ gs = cc in subst (λ y. Grows y n) q k

-- other operands in the innermost frame
restacked : (w : Frame) (ws : List Frame) (os : List Operand) → FewIn (w ∷ ws) → length os ≤ suc (length w.stack) → Grows (with_stack os w ∷ ws) (length (flat (w ∷ ws)))
restacked w ws os k h =
    let a = length-append os (flat ws) in
    let b = length-append w.stack (flat ws) in
    (k, omega (arith, a, b, h))

given_few : (ts : List ValType) (ws : List Frame) → length ts ≤ 1 → FewIn ws → FewIn (give ts ws) × (length (flat (give ts ws)) ≤ suc (length (flat ws)))
given_few ts [] h k = (tt, omega arith)
given_few ts (w ∷ ws) h k =
    let n = known_length ts in
    let a = length-append (known ts) w.stack in
    restacked w ws (known ts ++ w.stack) k (omega (arith, n, a, h))

step_few : (k : Class) (w : Frame) (ws gs : List Frame) → GivesFew k → FewIn (w ∷ ws) → step_by k w ws ≡ Some gs → Grows gs (length (flat (w ∷ ws)))
step_few (Fixed takes gives) w ws gs g k h =
    let p = there (pop_all w.unreachable (reverse takes) w.stack) (λ os. Some (with_stack (known (reverse gives) ++ os) w ∷ ws)) gs h in
    let a = pop_all_few w.unreachable (reverse takes) w.stack p.0 p.1 in
    let b = length-append (known (reverse gives)) p.0 in
    let d = known_length (reverse gives) in
    let e = length-reverse gives in
    grows_to (with_stack (known (reverse gives) ++ p.0) w ∷ ws) gs (length (flat (w ∷ ws))) p.2 (restacked w ws (known (reverse gives) ++ p.0) k (omega (arith, a, b, d, e, g)))
step_few Discards w ws gs g k h =
    let p = there (pop_any w.unreachable w.stack) (λ p. Some (with_stack p.1 w ∷ ws)) gs h in
    let a = pop_any_few w.unreachable w.stack p.0 p.1 in
    grows_to (with_stack p.0.1 w ∷ ws) gs (length (flat (w ∷ ws))) p.2 (restacked w ws p.0.1 k (omega (arith, a)))
step_few Selects w ws gs g k h =
    let p = there (pop_one w.unreachable I32 w.stack) (λ os. then_if (select_by w.unreachable os) (λ left. Some (with_stack left w ∷ ws))) gs h in
    let q = there (select_by w.unreachable p.0) (λ left. Some (with_stack left w ∷ ws)) gs p.2 in
    let a = pop_one_few w.unreachable I32 w.stack p.0 p.1 in
    let b = select_few w.unreachable p.0 q.0 q.1 in
    grows_to (with_stack q.0 w ∷ ws) gs (length (flat (w ∷ ws))) q.2 (restacked w ws q.0 k (omega (arith, a, b)))
step_few (Leaves takes) w ws gs g k h =
    let p = there (pop_all w.unreachable (reverse takes) w.stack) (λ os. Some (made_unreachable w ∷ ws)) gs h in
    let b = length-append w.stack (flat ws) in
    grows_to (made_unreachable w ∷ ws) gs (length (flat (w ∷ ws))) p.2 (k, omega (arith, b))
step_few (Enters takes enclosing label result) w ws gs g k h =
    let p = there (pop_all w.unreachable (reverse takes) w.stack) (λ os. Some (opened enclosing label result ∷ with_stack os w ∷ ws)) gs h in
    let a = pop_all_few w.unreachable (reverse takes) w.stack p.0 p.1 in
    let b = length-append w.stack (flat ws) in
    let d = length-append p.0 (flat ws) in
    grows_to (opened enclosing label result ∷ with_stack p.0 w ∷ ws) gs (length (flat (w ∷ ws))) p.2 ((g.0, g.1, k), omega (arith, a, b, d))
step_few Turning w ws gs g k h =
    let p = allowed (both (may_turn w.enclosing) (closed (pop_all w.unreachable w.result w.stack))) (opened Whole w.label w.result ∷ ws) gs h in
    let b = length-append w.stack (flat ws) in
    subst (λ x. Grows x (length (flat (w ∷ ws)))) p.1 (k, omega (arith, b))
step_few Ending w ws gs g k h =
    let p = allowed (both (may_end w.enclosing w.result) (closed (pop_all w.unreachable w.result w.stack))) (give w.result ws) gs h in
    let b = length-append w.stack (flat ws) in
    let r = given_few w.result ws k.1 k.2 in
    let r1 = r.1 in
    subst (λ x. Grows x (length (flat (w ∷ ws)))) p.1 (r.0, omega (arith, b, r1))
step_few Wrong w ws gs g k h = cc

-- ---- all instructions

walk_few : (c : Context) (is : List Instr) (ws gs : List Frame) → rules c.within ≡ true → FewIn ws → walk c is ws ≡ Some gs → length (flat gs) ≤ length (flat ws) + length is
walk_few c [] ws gs r k h = let q : ws ≡ gs = cc in subst (λ x. length (flat x) ≤ length (flat ws) + 0) q (omega arith)
walk_few c (i ∷ is) [] gs r k h = cc
walk_few c (i ∷ is) (w ∷ ws) gs r k h =
    let p = there (step c i (w ∷ ws)) (walk c is) gs h in
    let s = step_few (class_of (at_frames c (w ∷ ws)) i) w ws p.0 (class_few c (w ∷ ws) i r k) k p.1 in
    let s1 = s.1 in
    let n = walk_few c is p.0 gs r s.0 p.2 in
    omega (arith, s1, n)

-- ---- the operands of an activation that fits

pub fits_length : (c : Context) (code : List Instr) (vs : List Value) (ls : List Label) (ws : List Frame) → Fits c code vs ls ws → length (flat ws) ≡ length vs
fits_length c code vs ls [] f = absurd f
fits_length c code vs [] (w ∷ v ∷ ws) f = absurd f
fits_length c code vs [] (w ∷ []) f =
    let a = length-append w.stack [] in
    let b : length w.stack ≡ length vs = ap length f.1 ∙ known_length (types vs) ∙ types_length vs in
    omega (arith, a, b)
fits_length c code vs (l ∷ ls) (w ∷ ws) f =
    let a = length-append w.stack (flat ws) in
    let b : length w.stack ≡ length f.0 = ap length f.5 ∙ known_length (types f.0) ∙ types_length f.0 in
    let d = fits_length c code f.1 ls ws f.7 in
    let e : length vs ≡ length f.0 + length f.1 = ap length f.2 ∙ length-append f.0 f.1 in
    omega (arith, a, b, d, e)

kind_of : (m : Module) (function : ℕ) (f : Function) → function_at m function ≡ Some f → function_type m function ≡ Some f.kind
kind_of m function f h = by (function_type m function) refl h
  where
    by : (o : Option FuncType) → function_type m function ≡ o → given o (λ kind. given (slice_get m.bodies function) (λ body. Some (record { kind = kind; body = body }))) ≡ Some f → function_type m function ≡ Some f.kind
    by None e h = cc
    by (Some kind) e h = within (slice_get m.bodies function) h
      where
        within : (b : Option Body) → given b (λ body. Some (record { kind = kind; body = body })) ≡ Some f → function_type m function ≡ Some f.kind
        within None h = cc
        within (Some body) h = e ∙ kind_is (record { kind = kind; body = body }) f h
          where
            kind_is : (x y : Function) → Some x ≡ Some y → Some x.kind ≡ Some y.kind
            kind_is x y h = let q : x ≡ y = cc in ap (λ (z : Function). Some z.kind) q

pub operands_are_few : OperandsAreFew
operands_are_few m function f a w there k =
    let r = kind_has_one_result m function f.kind w.keeps_rules (kind_of m function f there) in
    let n = walk_few (context m f) (take a.place f.body.code) (start (context m f)) k.2 w.keeps_rules (r, r, tt) k.3.0 in
    let e = fits_length (context m f) f.body.code a.stack a.labels k.2 k.4 in
    let t = length-take a.place f.body.code in
    omega (arith, n, e, t)
