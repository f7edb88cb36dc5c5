-- The count of an object.
use Rattle.std.proofs.Common.{◌≡◌, ℕ, ◌<◌, Some, sym, ap, subst, ◌∙◌}
use Rattle.std.proofs.lemmas.Bool.{cond-true, lt-ltb}
use Rattle.rw_objects.specs.declared.count.Count.{Count}
use Rattle.debug_views.specs.Values.{count_of_object}

pub is_counted : (objects tested : ℕ) (counts : ℕ → Count) (object : ℕ) (c : Count) → tested ≡ objects → object < tested → c ≡ counts object → Some c ≡ count_of_object objects counts object
is_counted objects tested counts object c same lt is = ap Some is ∙ sym (cond-true _ _ _ (lt-ltb object objects (subst (λ (n : ℕ). object < n) same lt)))
