-- A touch counts one at most.
use Rattle.std.proofs.Common.{ap, ◌≡◌, ℕ, ◌+◌, ◌≤◌, ◌<◌, ◌^◌, ◌*◌, true, List, Option, Some, None, refl, sym, subst, arith}
use Rattle.rw_objects.specs.declared.touch.Mode.{Mode}
use Rattle.rw_objects.specs.declared.touch.Mode.TheVariants.{Read, Write}
use Rattle.rw_objects.specs.declared.count.Count.{Count}
use Rattle.rw_objects.specs.declared.entry.Kind.TheVariants as kinds
use Rattle.rw_objects.specs.Space.{Fits, mode_at, is_ready}
use Rattle.rw_objects.specs.Counts.{no_counts, count_after_if, CanCountAll, count_at}
use Rattle.rw_objects.specs.Memory.{Memory, memory_after, memory_with}
use Rattle.wasm_types.specs.declared.operation.Op.{Op}
use Rattle.block_objects.specs.declared.limits.MemoryLimits.{MemoryLimits}
use Rattle.block_objects.specs.Objects.{ObjectAt}
use Rattle.wasm_types.specs.declared.operation.Action.{Action}
use Rattle.block_objects.specs.Bounds.{InBounds, IsWithin}
use Rattle.block_objects.specs.Touches.{op_touches, op_kind}
use Rattle.block_objects.specs.SharedMemory.{shared_memory}
use Rattle.block_objects.proofs.Below.{ops_within_fit}
use Rattle.block_objects.proofs.Laws.{memory_laws}
use Rattle.wreplay_bench.specs.Counted.{Counted}

counted_most : (mode : Option Mode) (c : Count) → ((count_after_if mode c).version ≤ c.version + 1) × ((count_after_if mode c).reads ≤ c.reads + 1)
counted_most None c = (omega arith, omega arith)
counted_most (Some Read) c = (omega arith, omega arith)
counted_most (Some Write) c = (omega arith, omega arith)

-- an operation more was made
pub one_more : (limits : MemoryLimits) (made : ℕ) (m n : Memory ObjectAt MemoryLimits) (op : Op) → Counted limits made m → n ≡ memory_after shared_memory m op → Counted limits (made + 1) n
one_more limits made m n op h e =
    subst (Counted limits (made + 1)) (sym e)
    (record {
      fixed = h.fixed;
      versions = λ o. omega (arith, (counted_most (mode_at (op_touches op) o) (m.counts o)).0, h.versions o);
      reads = λ o. omega (arith, (counted_most (mode_at (op_touches op) o) (m.counts o)).1, h.reads o);
    })

-- few operations leave room for one more
pub can_count : (limits fixed : MemoryLimits) (values : ℕ → ObjectAt) (counts : List Count) (made : ℕ) (op : Op) → made < 2 ^ 32 → Counted limits made (memory_with fixed values (count_at counts)) → CanCountAll (op_touches op) counts
can_count limits fixed values counts made op few h o t = (omega (arith, few, h.versions o), omega (arith, few, h.reads o))

pub fits : (limits : MemoryLimits) (op : Op) → IsWithin limits op → Fits shared_memory limits op
fits limits op h = ops_within_fit limits op h

pub ready : (limits : MemoryLimits) (values : ℕ → ObjectAt) (op : Op) → IsWithin limits op → op_kind op ≡ kinds.Access → is_ready shared_memory limits values op ≡ true
ready limits values op h k = memory_laws.access_ready limits op values (fits limits op h) k

pub none_made : {fixed : MemoryLimits} {values : ℕ → ObjectAt} (limits : MemoryLimits) (m : Memory ObjectAt MemoryLimits) → m ≡ memory_with fixed values no_counts → fixed ≡ limits → Counted limits 0 m
none_made limits m e same = subst (Counted limits 0) (sym e) (record { fixed = same; versions = λ o. omega arith; reads = λ o. omega arith })

-- at most so many bytes at an address in the first page
pub few_within : (limits : MemoryLimits) (op : Op) (address len : ℕ) → 1 ≤ limits.capacity → limits.block ≤ 12 → address + len ≤ 65536 → op.extent ≡ record { initial = limits.initial; block = limits.block }
    → ((bytes : ℕ) → address + len ≤ bytes → InBounds bytes op.action) → IsWithin limits op
few_within limits op address len one low h e f =
    record { power = omega (arith, low); carries = (ap (λ x. x.initial) e, ap (λ x. x.block) e); ends = f (limits.capacity * 65536) (omega (arith, one, h)) }
