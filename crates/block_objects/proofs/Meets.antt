-- What operations do to a memory's bytes is their effect on its objects.
use Rattle.std.proofs.Common.{◌≡◌, ℕ, ◌+◌, ◌-◌, ◌*◌, ◌<◌, ◌≤◌, Bool, true, false, cond, ◌==◌, List, Option, None, refl, sym, ap, arith}
use Rattle.std.specs.Int.{Width, byte_len}
use Rattle.std.proofs.lemmas.Bool.Decides.{Decides-eqb}
use Rattle.rw_objects.specs.declared.touch.Mode.{Mode}
use Rattle.rw_objects.specs.declared.touch.Mode.TheVariants.{Read, Write}
use Rattle.rw_objects.specs.Space.{mode_at, is_written, touched_values, AllBelow}
use Rattle.wasm_types.specs.declared.operation.Extent.{Extent}
use Rattle.wasm_types.specs.declared.operation.Reply.{Reply}
use Rattle.wasm_types.specs.declared.instruction.Load.{Load}
use Rattle.wasm_types.specs.declared.instruction.Load.TheVariants as load
use Rattle.wasm_types.specs.declared.instruction.Access.{Access}
use Rattle.wasm_types.specs.declared.instruction.Access.TheVariants as access
use Rattle.wasm_types.specs.declared.instruction.Narrow.{Narrow}
use Rattle.wasm_types.specs.declared.instruction.Narrow.TheVariants.{I32Of8, I32Of16, I64Of8, I64Of16, I64Of32}
use Rattle.wasm_types.specs.declared.value.ValType.{ValType}
use Rattle.wasm_types.specs.declared.value.ValType.TheVariants as types
use Rattle.block_objects.specs.Objects.{ObjectAt, QueueAt, block_of, blocks_in, objects_in, object_value}
use Rattle.wasm_types.specs.Accesses.{access_width, load_width, narrow_width, type_width}
use Rattle.block_objects.specs.Access.{is_within}
use Rattle.block_objects.specs.Touches.{access_touches}
use Rattle.block_objects.specs.Effects.{access_effect}
use Rattle.block_objects.specs.Memory.{MemoryAt, IsSound, access_answer, after_access}
use Rattle.block_objects.proofs.Modes.{ranged, load_writes_none}
use Rattle.block_objects.proofs.Accesses.{answer_found, object_after}

type_small : (t : ValType) → byte_len (type_width t) ≤ 8
type_small types.I32 = omega arith
type_small types.I64 = omega arith

narrow_small : (n : Narrow) → byte_len (narrow_width n) ≤ 8
narrow_small I32Of8 = omega arith
narrow_small I32Of16 = omega arith
narrow_small I64Of8 = omega arith
narrow_small I64Of16 = omega arith
narrow_small I64Of32 = omega arith

pub load_small : (l : Load) → byte_len (load_width l) ≤ 8
load_small (load.Whole t) = type_small t
load_small (load.Narrow n e) = narrow_small n

pub access_small : (a : Access) → byte_len (access_width a) ≤ 8
access_small (access.Whole t) = type_small t
access_small (access.Narrow n) = narrow_small n

-- the last touched block exists
last_below : (within same : Bool) (mode : Mode) (first last blocks : ℕ) → (first == last) ≡ same → AllBelow (1 + 2 * blocks) (ranged within same mode first last) → last < blocks
last_below true true mode first last blocks is h = let e : first ≡ last = (Decides-eqb first last).0 is in omega (arith, e, h.0)
last_below true false mode first last blocks is h = omega (arith, h.1.0)
last_below false true mode first last blocks is h = let e : first ≡ last = (Decides-eqb first last).0 is in omega (arith, e, h.1.0)
last_below false false mode first last blocks is h = omega (arith, h.1.1.0)

-- an access of a memory whose numbers an operation carries
module _ (m : MemoryAt) (queues : ℕ → QueueAt) (sound : IsSound m) (address : ℕ) (w : Width) (small : byte_len w ≤ 8) where
  abbrev here : Extent
  here = record { initial = m.limits.initial; block = m.limits.block }

  abbrev values : ℕ → ObjectAt
  values = object_value m.limits.block m.pages m.bytes queues

  abbrev reached : Mode → List ObjectAt
  reached mode = touched_values (access_touches here mode address (byte_len w)) values

  fits : (mode : Mode) → AllBelow (objects_in m.limits.block m.limits.capacity) (access_touches here mode address (byte_len w)) → block_of m.limits.block (address + byte_len w - 1) < blocks_in m.limits.block m.limits.capacity
  fits mode below = last_below (is_within m.limits.initial address (byte_len w)) (block_of m.limits.block address == block_of m.limits.block (address + byte_len w - 1)) mode _ _ _ refl below

  pub answers : (mode : Mode) (reply : ℕ → Reply) (stored : ℕ → Option ℕ) → AllBelow (objects_in m.limits.block m.limits.capacity) (access_touches here mode address (byte_len w))
      → access_answer m address w reply ≡ (access_effect here address w reply stored (reached mode)).reply
  answers mode reply stored below =
      sym (answer_found m.limits.initial m.limits.block m.limits.capacity m.pages m.bytes queues sound.least_block sound.from_initial sound.all_bytes address w small (fits mode below) mode reply)

  pub leaves : (reply : ℕ → Reply) (stored : ℕ → Option ℕ) → AllBelow (objects_in m.limits.block m.limits.capacity) (access_touches here Write address (byte_len w)) → (o : ℕ)
      → object_value m.limits.block m.pages (after_access m address w stored).bytes queues o
      ≡ cond (is_written (mode_at (access_touches here Write address (byte_len w)) o)) ((access_effect here address w reply stored (reached Write)).written o) (values o)
  leaves reply stored below o =
      sym (object_after m.limits.initial m.limits.block m.limits.capacity m.pages m.bytes queues sound.least_block sound.from_initial sound.all_bytes address w small (fits Write below) stored o)

  pub stays : (reply : ℕ → Reply) (o : ℕ) → values o ≡ cond (is_written (mode_at (access_touches here Read address (byte_len w)) o)) ((access_effect here address w reply (λ n. None) (reached Read)).written o) (values o)
  stays reply o =
      ap (λ b. cond b ((access_effect here address w reply (λ n. None) (reached Read)).written o) (values o))
      (sym (load_writes_none (is_within m.limits.initial address (byte_len w)) (block_of m.limits.block address == block_of m.limits.block (address + byte_len w - 1)) _ _ o))
