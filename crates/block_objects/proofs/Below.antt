-- An operation that ends within the capacity touches objects of the memory.
use Rattle.std.proofs.Common.{◌≡◌, ℕ, ◌+◌, ◌-◌, ◌*◌, ◌/◌, ◌^◌, ◌≤◌, ◌<◌, Bool, true, false, cond, ◌==◌, List, [], ◌∷◌, ◌++◌, refl, sym, ◌∙◌, ap, subst, arith}
use Rattle.std.specs.Int.{byte_len, Width}
use Rattle.std.proofs.lemmas.Nat.{pow-add, shl-shr}
use Rattle.std.proofs.Math.Nat.{div-lt_iff_lt-mul, mul_assoc}
use Rattle.std.proofs.Math.Pow.{pow_mono}
use Rattle.wasm_types.specs.declared.operation.Action.{Action}
use Rattle.wasm_types.specs.declared.operation.Action.TheVariants as action
use Rattle.wasm_types.specs.declared.operation.Extent.{Extent}
use Rattle.wasm_types.specs.declared.value.ValType.{ValType}
use Rattle.wasm_types.specs.declared.value.ValType.TheVariants.{I32, I64}
use Rattle.wasm_types.specs.declared.instruction.Narrow.TheVariants.{I32Of8, I32Of16, I64Of8, I64Of16, I64Of32}
use Rattle.wasm_types.specs.declared.instruction.Access.{Access}
use Rattle.wasm_types.specs.declared.instruction.Access.TheVariants as access
use Rattle.wasm_types.specs.declared.instruction.Load.{Load}
use Rattle.wasm_types.specs.declared.instruction.Load.TheVariants as load
use Rattle.rw_objects.specs.declared.touch.Mode.{Mode}
use Rattle.rw_objects.specs.declared.touch.Mode.TheVariants.{Read, Write}
use Rattle.rw_objects.specs.declared.touch.Touch.{Touch}
use Rattle.rw_objects.specs.declared.entry.Kind.TheVariants as kinds
use Rattle.rw_objects.specs.Space.{AllBelow}
use Rattle.block_objects.specs.Objects.{block_of, block_object, queue_object, blocks_in, objects_in}
use Rattle.wasm_types.specs.Accesses.{access_width, load_width, type_width}
use Rattle.block_objects.specs.Access.{is_within}
use Rattle.block_objects.specs.Touches.{touch_of, length_touches, block_touches, access_touches, queue_touches, action_touches, action_kind}
use Rattle.block_objects.specs.declared.limits.MemoryLimits.{MemoryLimits}
use Rattle.block_objects.specs.Bounds.{InBounds, IsWithin, OpsWithinFit}
use Rattle.block_objects.specs.SharedMemory.{shared_memory}
use Rattle.wasm_types.specs.declared.operation.Op.{Op}

-- the blocks of a page divide it
block_in : (power address capacity : ℕ) → power ≤ 16 → address < capacity * 65536 → block_of power address < blocks_in power capacity
block_in power address capacity low h =
    let parts : 16 - power + power ≡ 16 = omega (arith, low) in
    let page : 65536 ≡ 2 ^ (16 - power) * 2 ^ power = sym (ap (λ x. 2 ^ x) parts) ∙ pow-add 2 (16 - power) power in
    let all : capacity * 65536 ≡ capacity * 2 ^ (16 - power) * 2 ^ power = ap (λ x. capacity * x) page ∙ sym (mul_assoc capacity (2 ^ (16 - power)) (2 ^ power)) in
    let many : blocks_in power capacity ≡ capacity * 2 ^ (16 - power) = ap (λ x. x / 2 ^ power) all ∙ shl-shr (capacity * 2 ^ (16 - power)) power in
    let lower : 0 ≤ power = omega arith in
    let least : 2 ^ 0 ≤ 2 ^ power = pow_mono lower in
    let some : 0 < 2 ^ power = omega (arith, least) in
    let below : address < capacity * 2 ^ (16 - power) * 2 ^ power = subst (λ x. address < x) all h in
    subst (λ x. address / 2 ^ power < x) (sym many) ((div-lt_iff_lt-mul some).1 below)

below_append : (n : ℕ) (a b : List Touch) → AllBelow n a → AllBelow n b → AllBelow n (a ++ b)
below_append n [] b h k = k
below_append n (t ∷ a) b h k = (h.0, below_append n a b h.1 k)

below_length : (e : Extent) (n address len : ℕ) → AllBelow (1 + 2 * n) (length_touches e address len)
below_length e n address len = by (is_within e.initial address len)
  where
    by : (b : Bool) → AllBelow (1 + 2 * n) (cond b [] (touch_of Read 0 ∷ []))
    by true = tt
    by false = (omega arith, tt)

below_block : (n b : ℕ) → b < n → block_object b < 1 + 2 * n
below_block n b h = omega (arith, h)

below_queue : (n b : ℕ) → b < n → queue_object b < 1 + 2 * n
below_queue n b h = omega (arith, h)

below_blocks : (n : ℕ) (mode : Mode) (first last : ℕ) → first < n → last < n → AllBelow (1 + 2 * n) (block_touches mode first last)
below_blocks n mode first last h k = by (first == last)
  where
    by : (b : Bool) → AllBelow (1 + 2 * n) (cond b (touch_of mode (block_object first) ∷ []) (touch_of mode (block_object first) ∷ touch_of mode (block_object last) ∷ []))
    by true = (below_block n first h, tt)
    by false = (below_block n first h, (below_block n last k, tt))

some_bytes : (w : Width) → 0 < byte_len w → (address limit : ℕ) → address + byte_len w ≤ limit → (address < limit) × (address + byte_len w - 1 < limit)
some_bytes w some address limit h = (omega (arith, some, h), omega (arith, some, h))

access_some : (a : Access) → 0 < byte_len (access_width a)
access_some (access.Whole I32) = omega arith
access_some (access.Whole I64) = omega arith
access_some (access.Narrow I32Of8) = omega arith
access_some (access.Narrow I32Of16) = omega arith
access_some (access.Narrow I64Of8) = omega arith
access_some (access.Narrow I64Of16) = omega arith
access_some (access.Narrow I64Of32) = omega arith

load_some : (l : Load) → 0 < byte_len (load_width l)
load_some (load.Whole t) = access_some (access.Whole t)
load_some (load.Narrow narrow e) = access_some (access.Narrow narrow)

type_some : (t : ValType) → 0 < byte_len (type_width t)
type_some t = access_some (access.Whole t)

module _ (e : Extent) (capacity : ℕ) (low : e.block ≤ 16) where
  abbrev objects : ℕ
  objects = objects_in e.block capacity

  abbrev blocks : ℕ
  blocks = blocks_in e.block capacity

  below_access : (mode : Mode) (w : Width) (address : ℕ) → 0 < byte_len w → address + byte_len w ≤ capacity * 65536 → AllBelow objects (access_touches e mode address (byte_len w))
  below_access mode w address some h =
      let ends = some_bytes w some address (capacity * 65536) h in
      below_append objects (length_touches e address (byte_len w)) _ (below_length e blocks address (byte_len w))
      (below_blocks blocks mode _ _ (block_in e.block address capacity low ends.0) (block_in e.block (address + byte_len w - 1) capacity low ends.1))

  below_queues : (address : ℕ) → address < capacity * 65536 → AllBelow objects (queue_touches e address)
  below_queues address h = (below_queue blocks _ (block_in e.block address capacity low h), tt)

  within_below : (a : Action) → InBounds (capacity * 65536) a → AllBelow objects (action_touches e a)
  within_below (action.Load l address) h = below_access Read (load_width l) address (load_some l) h
  within_below (action.Store a address operand) h = below_access Write (access_width a) address (access_some a) h
  within_below (action.Rmw op a address operand) h = below_access Write (access_width a) address (access_some a) h
  within_below (action.CompareExchange a address expected replacement) h = below_access Write (access_width a) address (access_some a) h
  within_below action.Size h = (omega arith, tt)
  within_below (action.Grow pages) h = (omega arith, tt)
  within_below (action.Wait t thread address expected) h =
      let at : address < capacity * 65536 = (some_bytes (type_width t) (type_some t) address (capacity * 65536) h).0 in
      below_append objects (length_touches e address (byte_len (type_width t))) _ (below_length e blocks address (byte_len (type_width t)))
      (below_block blocks _ (block_in e.block address capacity low at), below_queues address at)
  within_below (action.Notify address count) h =
      below_append objects (length_touches e address 4) _ (below_length e blocks address 4) (below_queues address (omega (arith, h)))
  within_below (action.Resume thread address) h = below_queues address h
  within_below (action.TimeOut thread address) h = below_queues address h

pub ops_within_fit : OpsWithinFit
ops_within_fit limits op h =
    record {
      carries = h.carries;
      below = subst (λ p. AllBelow (objects_in p limits.capacity) (action_touches op.extent op.action)) h.carries.1
          (within_below op.extent limits.capacity (subst (λ p. p ≤ 16) (sym h.carries.1) h.power) op.action h.ends);
    }
