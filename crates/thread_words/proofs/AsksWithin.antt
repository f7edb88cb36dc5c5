-- What a thread asks for is an access within the memory's capacity.
use Rattle.std.proofs.Common.{◌≡◌, ℕ, ◌+◌, ◌*◌, ◌^◌, ◌≤◌, ◌<◌, nat_le, Bool, true, false, cond, List, [], ◌∷◌, ◌++◌, Some, Result, Ok, Err, refl, subst, drop, ◌%◌, ◌==◌, arith}
use Rattle.std.specs.Int.{byte_len}
use Rattle.std.proofs.lemmas.Bool.{leb-true}
use Rattle.wasm_types.specs.declared.value.Value.{Value}
use Rattle.wasm_types.specs.declared.value.ValType.{ValType}
use Rattle.wasm_types.specs.declared.value.ValType.TheVariants.{I32, I64}
use Rattle.wasm_types.specs.declared.trap.Trap.{Trap}
use Rattle.wasm_types.specs.declared.operation.Action.{Action}
use Rattle.wasm_types.specs.declared.instruction.Instr.{Instr}
use Rattle.wasm_types.specs.declared.instruction.Instr.TheVariants as instr
use Rattle.wasm_types.specs.declared.instruction.Plain.{Plain}
use Rattle.wasm_types.specs.declared.instruction.BlockKind.TheVariants.{Block}
use Rattle.wasm_types.specs.declared.instruction.Access.{Access}
use Rattle.wasm_types.specs.declared.instruction.Access.TheVariants as access
use Rattle.wasm_types.specs.declared.instruction.Load.{Load}
use Rattle.wasm_types.specs.declared.instruction.MemoryOp.{MemoryOp}
use Rattle.wasm_types.specs.declared.instruction.MemoryOp.TheVariants as memory
use Rattle.wasm_types.specs.declared.instruction.PagesOp.{PagesOp}
use Rattle.wasm_types.specs.declared.instruction.PagesOp.TheVariants.{Size, Grow}
use Rattle.wasm_types.specs.declared.instruction.AtomicOp.{AtomicOp}
use Rattle.wasm_types.specs.declared.instruction.AtomicOp.TheVariants as atomic
use Rattle.wasm_types.specs.declared.sizes.TheConstants.{PAGE_SIZE}
use Rattle.wasm_types.specs.Accesses.{access_exponent, access_width, load_access, load_width, narrow_width, type_exponent, type_width}
use Rattle.wasm_types.proofs.Widths.{power_bytes}
use Rattle.validator.specs.Context.{Context}
use Rattle.integer_ops.specs.Numeric.{computed}
use Rattle.rw_objects.specs.declared.entry.Kind.TheVariants as kinds
use Rattle.block_objects.specs.Bounds.{InBounds}
use Rattle.block_objects.specs.Touches.{action_kind}
use Rattle.thread_words.specs.Instance.{Instance}
use Rattle.thread_words.specs.Activation.{Activation}
use Rattle.thread_words.specs.Effect.{Effect, Stops, operand, numeric_effect, within_capacity, if_aligned, if_shared, memory_effect, pages_effect, atomic_load, atomically, atomic_effect, effect_of}
use Rattle.thread_words.specs.Step.{Next, act}
use Rattle.thread_words.specs.Thread.{address_of}
use Rattle.thread_words.proofs.Acts.{EffectProper, NextProper, Heads, acts_proper}

-- it asks for an access
abbrev pub IsAccess : Action → Type 0
IsAccess a = action_kind a ≡ kinds.Access

-- an access within the memory
abbrev pub AsksIn : ℕ → Action → Type 0
AsksIn bytes a = InBounds bytes a × IsAccess a

-- a wait is at an address of the memory
abbrev pub WaitsIn : ℕ → Action → Type 0
WaitsIn bytes a = AsksIn bytes a × (address_of a < bytes)

abbrev pub bytes_of : Instance → ℕ
bytes_of m = m.capacity * PAGE_SIZE

abbrev Within : Instance → Effect → Type 0
Within m e = EffectProper (AsksIn (bytes_of m)) (WaitsIn (bytes_of m)) e

abbrev pub NextWithin : Instance → Next → Type 0
NextWithin m n = NextProper (AsksIn (bytes_of m)) (WaitsIn (bytes_of m)) n

-- ---- widths

atomic_bytes : (a : Access) → 2 ^ access_exponent a ≡ byte_len (load_width (atomic_load a))
atomic_bytes (access.Whole t) = power_bytes (type_width t)
atomic_bytes (access.Narrow narrow) = power_bytes (narrow_width narrow)

wait_below : (t : ValType) (address bytes : ℕ) → address + 2 ^ type_exponent t ≤ bytes → address < bytes
wait_below I32 address bytes h = omega (arith, h)
wait_below I64 address bytes h = omega (arith, h)

-- ---- effects

in_capacity : (m : Instance) (address bytes : ℕ) (e : Effect) → (address + bytes ≤ bytes_of m → Within m e) → Within m (within_capacity m address bytes e)
in_capacity m address bytes e f = by (nat_le (address + bytes) (m.capacity * PAGE_SIZE)) refl
  where
    by : (b : Bool) → nat_le (address + bytes) (m.capacity * PAGE_SIZE) ≡ b → Within m (cond b e (Stops Rattle.wasm_types.specs.declared.trap.Trap.TheVariants.OutOfBounds))
    by true h = f (leb-true (address + bytes) (m.capacity * PAGE_SIZE) h)
    by false h = tt

aligned : (m : Instance) (address bytes : ℕ) (e : Effect) → Within m e → Within m (if_aligned address bytes e)
aligned m address bytes e f = by (address % bytes == 0)
  where
    by : (b : Bool) → Within m (cond b e (Stops Rattle.wasm_types.specs.declared.trap.Trap.TheVariants.UnalignedAtomic))
    by true = f
    by false = tt

shared : (m : Instance) (e : Effect) → Within m e → Within m (if_shared m e)
shared m e f = by m.shared
  where
    by : (b : Bool) → Within m (cond b e (Stops Rattle.wasm_types.specs.declared.trap.Trap.TheVariants.MemoryNotShared))
    by true = f
    by false = tt

at_once : (m : Instance) (address width : ℕ) (e : Effect) → (address + 2 ^ width ≤ bytes_of m → Within m e) → Within m (atomically m address width e)
at_once m address width e f = aligned m address (2 ^ width) _ (in_capacity m address (2 ^ width) e f)

by_bytes : (address bytes limit len : ℕ) → len ≡ bytes → address + len ≤ limit → address + bytes ≤ limit
by_bytes address bytes limit len e h = subst (λ x. address + x ≤ limit) e h

memory_proper : (m : Instance) (op : MemoryOp) (address : ℕ) (vs : List Value) → Within m (memory_effect m op address vs)
memory_proper m (memory.Load l) address vs = in_capacity m address (2 ^ access_exponent (load_access l)) _ (λ h. (by_bytes address _ (bytes_of m) _ (power_bytes (load_width l)) h, refl))
memory_proper m (memory.Store a) address vs = in_capacity m address (2 ^ access_exponent a) _ (λ h. (by_bytes address _ (bytes_of m) _ (power_bytes (access_width a)) h, refl))

pages_proper : (m : Instance) (op : PagesOp) (vs : List Value) → Within m (pages_effect op vs)
pages_proper m Size vs = (tt, refl)
pages_proper m Grow vs = (tt, refl)

atomic_proper : (m : Instance) (op : AtomicOp) (address : ℕ) (vs : List Value) → Within m (atomic_effect m op address vs)
atomic_proper m atomic.Notify address vs = at_once m address 2 _ (λ h. (h, refl))
atomic_proper m (atomic.Wait t) address vs =
    shared m _ (at_once m address (type_exponent t) _ (λ h. ((by_bytes address _ (bytes_of m) _ (power_bytes (type_width t)) h, refl), wait_below t address (bytes_of m) h)))
atomic_proper m (atomic.Load a) address vs = at_once m address (access_exponent a) _ (λ h. (by_bytes address _ (bytes_of m) _ (atomic_bytes a) h, refl))
atomic_proper m (atomic.Store a) address vs = at_once m address (access_exponent a) _ (λ h. (by_bytes address _ (bytes_of m) _ (power_bytes (access_width a)) h, refl))
atomic_proper m (atomic.Rmw op a) address vs = at_once m address (access_exponent a) _ (λ h. (by_bytes address _ (bytes_of m) _ (power_bytes (access_width a)) h, refl))
atomic_proper m (atomic.CompareExchange a) address vs = at_once m address (access_exponent a) _ (λ h. (by_bytes address _ (bytes_of m) _ (power_bytes (access_width a)) h, refl))

numeric_proper : (m : Instance) (r : Result Value Trap) → Within m (numeric_effect r)
numeric_proper m (Ok v) = tt
numeric_proper m (Err trap) = tt

effect_proper : (m : Instance) (i : Instr) (vs : List Value) → Within m (effect_of m i vs)
effect_proper m (instr.Plain p) vs = tt
effect_proper m (instr.Numeric n) vs = numeric_proper m (computed n (operand 0 vs) (operand 1 vs))
effect_proper m (instr.Block kind t) vs = tt
effect_proper m (instr.Index op x) vs = tt
effect_proper m (instr.BranchTable range default) vs = tt
effect_proper m (instr.CallIndirect x) vs = tt
effect_proper m (instr.Memory op arg) vs = memory_proper m op (operand 0 vs + arg.offset) vs
effect_proper m (instr.Pages op) vs = pages_proper m op vs
effect_proper m (instr.Const v) vs = tt
effect_proper m (instr.Atomic op arg) vs = atomic_proper m op (operand 0 vs + arg.offset) vs
effect_proper m instr.Fence vs = tt

heads_within : (m : Instance) (is : List Instr) → Heads (AsksIn (bytes_of m)) (WaitsIn (bytes_of m)) m is
heads_within m [] = tt
heads_within m (i ∷ is) = effect_proper m i

-- what an activation asks for is within the capacity
pub asks_within : (m : Instance) (c : Context) (code : List Instr) (a : Activation) (n : Next) → act m c code a ≡ Some n → NextWithin m n
asks_within m c code a n h = acts_proper (AsksIn (bytes_of m)) (WaitsIn (bytes_of m)) m c code a n (heads_within m (drop a.place code)) h
