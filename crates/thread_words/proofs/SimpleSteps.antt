-- Instructions that take and leave operands of fixed types.
use Rattle.std.proofs.Common.{◌≡◌, ℕ, ◌+◌, ◌*◌, ◌%◌, ◌^◌, nat_le, nat_eq, Bool, true, false, cond, List, [], ◌∷◌, Some, Result, Ok, Err, refl, ◌∙◌, reverse}
use Rattle.std.specs.Prelude.{◌==◌}
use Rattle.std.specs.Int.{w64, cast_signed}
use Rattle.wasm_types.specs.declared.operation.Action.TheVariants as act
use Rattle.wasm_types.specs.declared.instruction.Load.{Load}
use Rattle.wasm_types.specs.declared.instruction.Access.{Access}
use Rattle.wasm_types.specs.declared.value.Value.{Value}
use Rattle.wasm_types.specs.declared.value.ValType.{ValType}
use Rattle.wasm_types.specs.declared.value.ValType.TheVariants.{I32, I64}
use Rattle.wasm_types.specs.declared.trap.Trap.{Trap}
use Rattle.wasm_types.specs.declared.trap.Trap.TheVariants.{OutOfBounds, UnalignedAtomic, MemoryNotShared}
use Rattle.wasm_types.specs.declared.instruction.MemArg.{MemArg}
use Rattle.wasm_types.specs.declared.instruction.Instr.{Instr}
use Rattle.wasm_types.specs.declared.instruction.Instr.TheVariants as instr
use Rattle.wasm_types.specs.declared.instruction.Narrow.TheVariants.{I32Of8, I32Of16, I64Of8, I64Of16, I64Of32}
use Rattle.wasm_types.specs.declared.instruction.Extension.TheVariants.{Signed, Unsigned}
use Rattle.wasm_types.specs.declared.instruction.Numeric.{Numeric}
use Rattle.wasm_types.specs.declared.instruction.Numeric.TheVariants.{IsZero, Compare, Unary, Binary, Wrap, Extend, ExtendLow}
use Rattle.wasm_types.specs.declared.instruction.MemoryOp.{MemoryOp}
use Rattle.wasm_types.specs.declared.instruction.MemoryOp.TheVariants as memory
use Rattle.wasm_types.specs.declared.instruction.PagesOp.{PagesOp}
use Rattle.wasm_types.specs.declared.instruction.PagesOp.TheVariants.{Size, Grow}
use Rattle.wasm_types.specs.declared.instruction.AtomicOp.{AtomicOp}
use Rattle.wasm_types.specs.declared.instruction.AtomicOp.TheVariants as atomic
use Rattle.wasm_types.specs.Values.{type_of, value_of}
use Rattle.wasm_types.specs.Accesses.{access_exponent, access_type, atomic_exponent, load_access, type_exponent}
use Rattle.validator.specs.Context.{Context, has_memory}
use Rattle.validator.specs.Table.{Class, Fixed, class_of, if_true, memory_class, pages_class, atomic_class, atomic_operands}
use Rattle.validator.specs.Walk.{Frame, step_by}
use Rattle.integer_ops.specs.Numeric.{result_value}
use Rattle.thread_words.specs.Instance.{Instance}
use Rattle.thread_words.specs.Activation.{types}
use Rattle.thread_words.specs.Effect.{Effect, Gives, Stops, Makes, Waits, numeric_effect, memory_effect, atomic_effect, atomic_load, within_capacity, atomically, effect_of, operand}

-- an effect leaves operands of these types
abbrev pub EffectFits : List ValType → Effect → Type 0
EffectFits gives (Gives vs) = types vs ≡ reverse gives
EffectFits gives (Stops trap) = Unit {0}
EffectFits gives (Makes action replies) = replies ≡ gives
EffectFits gives (Waits action time) = gives ≡ I32 ∷ []

pub record Simple (m : Instance) (c : Context) (i : Instr) : Type 0 where
  pub takes : List ValType
  pub gives : List ValType
  pub class_is : class_of c i ≡ Fixed takes gives
  pub fits : (vs : List Value) → EffectFits gives (effect_of m i vs)

-- ---- numerics

value_fits : (t : ValType) (n : ℕ) → types (value_of t n ∷ []) ≡ reverse (t ∷ [])
value_fits I32 n = refl
value_fits I64 n = refl

result_fits : (t : ValType) (r : Result ℕ Trap) → EffectFits (t ∷ []) (numeric_effect (result_value t r))
result_fits t (Ok n) = value_fits t n
result_fits t (Err trap) = tt

pub numeric_simple : (m : Instance) (c : Context) (n : Numeric) → Simple m c (instr.Numeric n)
numeric_simple m c (IsZero t) = record { takes = t ∷ []; gives = I32 ∷ []; class_is = refl; fits = λ vs. refl }
numeric_simple m c (Compare t op) = record { takes = t ∷ t ∷ []; gives = I32 ∷ []; class_is = refl; fits = λ vs. refl }
numeric_simple m c (Unary t op) = record { takes = t ∷ []; gives = t ∷ []; class_is = refl; fits = λ vs. value_fits t _ }
numeric_simple m c (Binary t op) = record { takes = t ∷ t ∷ []; gives = t ∷ []; class_is = refl; fits = λ vs. result_fits t _ }
numeric_simple m c Wrap = record { takes = I64 ∷ []; gives = I32 ∷ []; class_is = refl; fits = λ vs. refl }
numeric_simple m c (Extend Signed) = record { takes = I32 ∷ []; gives = I64 ∷ []; class_is = refl; fits = λ vs. refl }
numeric_simple m c (Extend Unsigned) = record { takes = I32 ∷ []; gives = I64 ∷ []; class_is = refl; fits = λ vs. refl }
numeric_simple m c (ExtendLow I32Of8) = record { takes = I32 ∷ []; gives = I32 ∷ []; class_is = refl; fits = λ vs. refl }
numeric_simple m c (ExtendLow I32Of16) = record { takes = I32 ∷ []; gives = I32 ∷ []; class_is = refl; fits = λ vs. refl }
numeric_simple m c (ExtendLow I64Of8) = record { takes = I64 ∷ []; gives = I64 ∷ []; class_is = refl; fits = λ vs. refl }
numeric_simple m c (ExtendLow I64Of16) = record { takes = I64 ∷ []; gives = I64 ∷ []; class_is = refl; fits = λ vs. refl }
numeric_simple m c (ExtendLow I64Of32) = record { takes = I64 ∷ []; gives = I64 ∷ []; class_is = refl; fits = λ vs. refl }

pub const_simple : (m : Instance) (c : Context) (v : Value) → Simple m c (instr.Const v)
const_simple m c v = record { takes = []; gives = type_of v ∷ []; class_is = refl; fits = λ vs. refl }

pub fence_simple : (m : Instance) (c : Context) → Simple m c instr.Fence
fence_simple m c = record { takes = []; gives = []; class_is = refl; fits = λ vs. refl }

-- ---- the memory

-- a class that lets a step be made isn't refused
pub granted : (b : Bool) (k : Class) (w : Frame) (ws gs : List Frame) → step_by (if_true b k) w ws ≡ Some gs → (if_true b k ≡ k) × (step_by k w ws ≡ Some gs)
granted false k w ws gs h = cc
granted true k w ws gs h = (refl, h)

either_fits : (gives : List ValType) (b : Bool) (e f : Effect) → EffectFits gives e → EffectFits gives f → EffectFits gives (cond b e f)
either_fits gives true e f h k = h
either_fits gives false e f h k = k

within_fits : (m : Instance) (address bytes : ℕ) (gives : List ValType) (e : Effect) → EffectFits gives e → EffectFits gives (within_capacity m address bytes e)
within_fits m address bytes gives e h = either_fits gives (nat_le (address + bytes) (m.capacity * 65536)) e (Stops OutOfBounds) h tt

atomically_fits : (m : Instance) (address width : ℕ) (gives : List ValType) (e : Effect) → EffectFits gives e → EffectFits gives (atomically m address width e)
atomically_fits m address width gives e h =
    either_fits gives (address % 2 ^ width == 0) (within_capacity m address (2 ^ width) e) (Stops UnalignedAtomic) (within_fits m address (2 ^ width) gives e h) tt

load_fits : (m : Instance) (l : Load) (address : ℕ) (vs : List Value) → EffectFits (access_type (load_access l) ∷ []) (memory_effect m (memory.Load l) address vs)
load_fits m l address vs = within_fits m address (2 ^ access_exponent (load_access l)) (access_type (load_access l) ∷ []) (Makes (act.Load l address) (access_type (load_access l) ∷ [])) refl

store_fits : (m : Instance) (a : Access) (address : ℕ) (vs : List Value) → EffectFits [] (memory_effect m (memory.Store a) address vs)
store_fits m a address vs = within_fits m address (2 ^ access_exponent a) [] (Makes (act.Store a address (operand 1 vs)) []) refl

pub memory_simple : (m : Instance) (c : Context) (op : MemoryOp) (arg : MemArg) (w : Frame) (ws gs : List Frame) → step_by (class_of c (instr.Memory op arg)) w ws ≡ Some gs → Simple m c (instr.Memory op arg)
memory_simple m c (memory.Load l) arg w ws gs h =
    let p = granted (has_memory c.within) (memory_class (memory.Load l) arg.align) w ws gs h in
    let q = granted (nat_le arg.align (access_exponent (load_access l))) (Fixed (I32 ∷ []) (access_type (load_access l) ∷ [])) w ws gs p.1 in
    record { takes = I32 ∷ []; gives = access_type (load_access l) ∷ []; class_is = p.0 ∙ q.0; fits = λ vs. load_fits m l (operand 0 vs + arg.offset) vs }
memory_simple m c (memory.Store a) arg w ws gs h =
    let p = granted (has_memory c.within) (memory_class (memory.Store a) arg.align) w ws gs h in
    let q = granted (nat_le arg.align (access_exponent a)) (Fixed (I32 ∷ access_type a ∷ []) []) w ws gs p.1 in
    record { takes = I32 ∷ access_type a ∷ []; gives = []; class_is = p.0 ∙ q.0; fits = λ vs. store_fits m a (operand 0 vs + arg.offset) vs }

pub pages_simple : (m : Instance) (c : Context) (op : PagesOp) (w : Frame) (ws gs : List Frame) → step_by (class_of c (instr.Pages op)) w ws ≡ Some gs → Simple m c (instr.Pages op)
pages_simple m c Size w ws gs h = let p = granted (has_memory c.within) (pages_class Size) w ws gs h in record { takes = []; gives = I32 ∷ []; class_is = p.0; fits = λ vs. refl }
pages_simple m c Grow w ws gs h = let p = granted (has_memory c.within) (pages_class Grow) w ws gs h in record { takes = I32 ∷ []; gives = I32 ∷ []; class_is = p.0; fits = λ vs. refl }

-- what an atomic instruction takes and leaves, where its class is granted
record Operands (m : Instance) (op : AtomicOp) : Type 0 where
  takes : List ValType
  gives : List ValType
  operands_are : atomic_operands op ≡ Fixed takes gives
  fits : (address : ℕ) (vs : List Value) → EffectFits gives (atomic_effect m op address vs)

operands_of : (m : Instance) (op : AtomicOp) → Operands m op
operands_of m atomic.Notify = record {
  takes = I32 ∷ I32 ∷ [];
  gives = I32 ∷ [];
  operands_are = refl;
  fits = λ address vs. atomically_fits m address 2 (I32 ∷ []) (Makes (act.Notify address (operand 1 vs)) (I32 ∷ [])) refl;
}
operands_of m (atomic.Wait t) = record {
  takes = I32 ∷ t ∷ I64 ∷ [];
  gives = I32 ∷ [];
  operands_are = refl;
  fits = λ address vs.
      let e = Waits (act.Wait t m.thread address (operand 1 vs)) (cast_signed w64 (operand 2 vs)) in
      either_fits (I32 ∷ []) m.shared (atomically m address (type_exponent t) e) (Stops MemoryNotShared) (atomically_fits m address (type_exponent t) (I32 ∷ []) e refl) tt;
}
operands_of m (atomic.Load a) = record {
  takes = I32 ∷ [];
  gives = access_type a ∷ [];
  operands_are = refl;
  fits = λ address vs. atomically_fits m address (access_exponent a) (access_type a ∷ []) (Makes (act.Load (atomic_load a) address) (access_type a ∷ [])) refl;
}
operands_of m (atomic.Store a) = record {
  takes = I32 ∷ access_type a ∷ [];
  gives = [];
  operands_are = refl;
  fits = λ address vs. atomically_fits m address (access_exponent a) [] (Makes (act.Store a address (operand 1 vs)) []) refl;
}
operands_of m (atomic.Rmw op a) = record {
  takes = I32 ∷ access_type a ∷ [];
  gives = access_type a ∷ [];
  operands_are = refl;
  fits = λ address vs. atomically_fits m address (access_exponent a) (access_type a ∷ []) (Makes (act.Rmw op a address (operand 1 vs)) (access_type a ∷ [])) refl;
}
operands_of m (atomic.CompareExchange a) = record {
  takes = I32 ∷ access_type a ∷ access_type a ∷ [];
  gives = access_type a ∷ [];
  operands_are = refl;
  fits = λ address vs. atomically_fits m address (access_exponent a) (access_type a ∷ []) (Makes (act.CompareExchange a address (operand 1 vs) (operand 2 vs)) (access_type a ∷ [])) refl;
}

pub atomic_simple : (m : Instance) (c : Context) (op : AtomicOp) (arg : MemArg) (w : Frame) (ws gs : List Frame) → step_by (class_of c (instr.Atomic op arg)) w ws ≡ Some gs → Simple m c (instr.Atomic op arg)
atomic_simple m c op arg w ws gs h =
    let p = granted (has_memory c.within) (atomic_class op arg.align) w ws gs h in
    let q = granted (nat_eq arg.align (atomic_exponent op)) (atomic_operands op) w ws gs p.1 in
    let o = operands_of m op in
    record { takes = o.takes; gives = o.gives; class_is = p.0 ∙ q.0 ∙ o.operands_are; fits = λ vs. o.fits (operand 0 vs + arg.offset) vs }
