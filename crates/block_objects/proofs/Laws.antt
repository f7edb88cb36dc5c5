-- An operation touches one to three objects in rising order, and an access is always ready.
use Rattle.std.proofs.Common.{◌≡◌, ℕ, ◌+◌, ◌-◌, ◌<◌, ◌≤◌, ◌≢◌, Bool, true, false, cond, ◌==◌, List, [], ◌∷◌, ◌++◌, length, refl, sym, ◌∙◌, arith}
use Rattle.std.specs.Int.{byte_len}
use Rattle.std.proofs.Math.Pow.{shr_mono}
use Rattle.std.proofs.lemmas.Bool.Decides.{Decides-eqb}
use Rattle.rw_objects.specs.declared.touch.Mode.{Mode}
use Rattle.rw_objects.specs.declared.touch.Mode.TheVariants.{Read, Write}
use Rattle.rw_objects.specs.declared.touch.Touch.{Touch}
use Rattle.rw_objects.specs.declared.entry.Kind.TheVariants as kinds
use Rattle.rw_objects.specs.Space.{SpaceLaws, RisesFrom}
use Rattle.wasm_types.specs.declared.operation.Extent.{Extent}
use Rattle.wasm_types.specs.declared.operation.Action.{Action}
use Rattle.wasm_types.specs.declared.operation.Action.TheVariants as act
use Rattle.block_objects.specs.Objects.{ObjectAt, block_of, block_object}
use Rattle.wasm_types.specs.Accesses.{access_width, load_width, type_width}
use Rattle.block_objects.specs.Access.{is_within}
use Rattle.block_objects.specs.Touches.{touch_of, length_touches, access_touches, queue_touches, wait_touches, action_touches, action_kind}
use Rattle.block_objects.specs.Effects.{action_effect}
use Rattle.block_objects.specs.SharedMemory.{shared_memory}
use Rattle.block_objects.proofs.NumbersIn.{some_bytes}

-- the touches of a list rise, and they are one to n
abbrev IsGood : ℕ → ℕ → List Touch → Type 0
IsGood from n ts = RisesFrom from ts × ((0 < length ts) × (length ts ≤ n))

good_blocks : (mode : Mode) (first last : ℕ) (same : Bool) → first ≤ last → (first == last) ≡ same → (from : ℕ) → from ≤ 1 → IsGood from 2 (cond same (touch_of mode (block_object first) ∷ []) (touch_of mode (block_object first) ∷ touch_of mode (block_object last) ∷ []))
good_blocks mode first last true le is from low = ((omega arith, tt), (omega arith, omega arith))
good_blocks mode first last false le is from low =
    let ne : first ≢ last = λ e. absurd (differ ((Decides-eqb first last).1 e)) in
    ((omega arith, (omega arith, tt)), (omega arith, omega arith)) where
      differ : (first == last) ≡ true → ⊥
      differ e = let bad : true ≡ false = sym e ∙ is in cc

good_length : (within : Bool) (ts : List Touch) (n : ℕ) → ((from : ℕ) → from ≤ 1 → IsGood from n ts) → IsGood 0 (n + 1) (cond within [] (touch_of Read 0 ∷ []) ++ ts)
good_length true ts n good = let g = good 0 (omega arith) in (g.0, (g.1.0, omega (arith, g.1.1)))
good_length false ts n good = let g = good 1 (omega arith) in ((omega arith, g.0), (omega arith, omega (arith, g.1.1)))

good_access : (e : Extent) (mode : Mode) (address len : ℕ) → 0 < len → IsGood 0 3 (access_touches e mode address len)
good_access e mode address len some =
    good_length (is_within e.initial address len) _ 2 (λ from low. good_blocks mode (block_of e.block address) (block_of e.block (address + len - 1)) _ le refl from low) where
      le : block_of e.block address ≤ block_of e.block (address + len - 1)
      le = let up : address ≤ address + len - 1 = omega arith in shr_mono e.block up

good_queue : (e : Extent) (address from : ℕ) → from ≤ 1 → IsGood from 1 (queue_touches e address)
good_queue e address from low = ((omega arith, tt), (omega arith, omega arith))

good_wait : (e : Extent) (address len : ℕ) → IsGood 0 3 (wait_touches e address len)
good_wait e address len = good_length (is_within e.initial address len) _ 2 (λ from low. ((omega arith, (omega arith, tt)), (omega arith, omega arith)))

good_notify : (e : Extent) (address : ℕ) → IsGood 0 2 (length_touches e address 4 ++ queue_touches e address)
good_notify e address = good_length (is_within e.initial address 4) _ 1 (λ from low. good_queue e address from low)

good : (e : Extent) (a : Action) → IsGood 0 3 (action_touches e a)
good e (act.Load load address) = good_access e Read address _ (some_bytes (load_width load))
good e (act.Store access address operand) = good_access e Write address _ (some_bytes (access_width access))
good e (act.Rmw op access address operand) = good_access e Write address _ (some_bytes (access_width access))
good e (act.CompareExchange access address expected replacement) = good_access e Write address _ (some_bytes (access_width access))
good e act.Size = ((omega arith, tt), (omega arith, omega arith))
good e (act.Grow pages) = ((omega arith, tt), (omega arith, omega arith))
good e (act.Wait width thread address expected) = good_wait e address (byte_len (type_width width))
good e (act.Notify address count) = let g = good_notify e address in (g.0, (g.1.0, omega (arith, g.1.1)))
good e (act.Resume thread address) = let g = good_queue e address 0 (omega arith) in (g.0, (g.1.0, omega (arith, g.1.1)))
good e (act.TimeOut thread address) = let g = good_queue e address 0 (omega arith) in (g.0, (g.1.0, omega (arith, g.1.1)))

ready : (capacity : ℕ) (e : Extent) (a : Action) (seen : List ObjectAt) → action_kind a ≡ kinds.Access → (action_effect capacity e a seen).ready ≡ true
ready capacity e (act.Load load address) seen is = refl
ready capacity e (act.Store access address operand) seen is = refl
ready capacity e (act.Rmw op access address operand) seen is = refl
ready capacity e (act.CompareExchange access address expected replacement) seen is = refl
ready capacity e act.Size seen is = refl
ready capacity e (act.Grow pages) seen is = refl
ready capacity e (act.Wait width thread address expected) seen is = refl
ready capacity e (act.Notify address count) seen is = refl
ready capacity e (act.Resume thread address) seen is = absurd (cc)
ready capacity e (act.TimeOut thread address) seen is = absurd (cc)

pub memory_laws : SpaceLaws shared_memory
memory_laws = record {
  rising = λ limits op fits. (good op.extent op.action).0;
  at_most = λ limits op fits. (good op.extent op.action).1.1;
  some_touch = λ limits op fits. (good op.extent op.action).1.0;
  access_ready = λ limits op values fits is. ready limits.capacity op.extent op.action _ is;
}
