-- What an access finds in the objects that it touches.
use Rattle.std.proofs.Common.{◌≡◌, ℕ, ◌≤◌, Bool, true, false, cond, List, refl, sym, ◌∙◌, arith}
use Rattle.std.proofs.lemmas.Bool.Decides.{nat_tests}
use Rattle.rw_objects.specs.declared.touch.Mode.{Mode}
use Rattle.rw_objects.specs.Space.{touched_values}
use Rattle.block_objects.specs.Objects.{ObjectAt, QueueAt, object_value}
use Rattle.block_objects.specs.Access.{is_within}
use Rattle.block_objects.specs.Effects.{pages_seen, bytes_seen}
use Rattle.block_objects.proofs.Values.{value_block}
use Rattle.block_objects.proofs.Modes.{ranged}
use Rattle.block_objects.proofs.Geometry.{joined}

module _ (p pages : ℕ) (bytes : List ℕ) (queues : ℕ → QueueAt) where
  abbrev V : ℕ → ObjectAt
  V = object_value p pages bytes queues

  pub pages_found : (ini : ℕ) (within same : Bool) (mode : Mode) (first last : ℕ) → pages_seen ini (touched_values (ranged within same mode first last) V) ≡ cond within ini pages
  pages_found ini true true mode first last = rw value_block refl
  pages_found ini true false mode first last = rw (value_block p pages bytes queues first, value_block p pages bytes queues last) refl
  pages_found ini false true mode first last = refl
  pages_found ini false false mode first last = refl

  pub bytes_found : (within same : Bool) (mode : Mode) (first last : ℕ) → bytes_seen (touched_values (ranged within same mode first last) V) ≡ joined p bytes first last same
  bytes_found true true mode first last = rw (value_block p pages bytes queues first) refl
  bytes_found true false mode first last = rw (value_block p pages bytes queues first, value_block p pages bytes queues last) refl
  bytes_found false true mode first last = rw (value_block p pages bytes queues first) refl
  bytes_found false false mode first last = rw (value_block p pages bytes queues first, value_block p pages bytes queues last) refl

-- what ends within the initial length ends within the present one
pub bounds_agree : (ini pages address len : ℕ) (b : Bool) → ini ≤ pages → is_within ini address len ≡ b → is_within (cond b ini pages) address len ≡ is_within pages address len
bounds_agree ini pages address len false le is = refl
bounds_agree ini pages address len true le is = is ∙ sym (grown_within ini pages address len le is) where
  grown_within : (ini pages address len : ℕ) → ini ≤ pages → is_within ini address len ≡ true → is_within pages address len ≡ true
  grown_within ini pages address len le is = grind (arith, nat_tests)
