-- Sets of threads.
use Rattle.std.proofs.Common.{◌≡◌, ℕ, zero, suc, ◌<◌, Bool, true, false, ◌||◌, List, length, refl, sym, ap, ◌∙◌}
use Rattle.std.specs.Prelude.{◌==◌, slice_index_or, slice_set, replicate}
use Rattle.std.proofs.lemmas.Bool.{eqb-true, eqb-false}
use Rattle.std.proofs.lemmas.List.{get_or-set_same, get_or-set_other}

-- none is a member
pub none_has : (n thread : ℕ) → slice_index_or (replicate n false) thread false ≡ false
none_has zero thread = refl
none_has (suc n) zero = refl
none_has (suc n) (suc thread) = none_has n thread

pub one_more : (members : List Bool) (thread : ℕ) → thread < length members → (other : ℕ) → slice_index_or (slice_set members thread true) other false ≡ (thread == other || slice_index_or members other false)
one_more members thread few other = go (thread == other) refl
  where
    go : (b : Bool) → (thread == other) ≡ b → slice_index_or (slice_set members thread true) other false ≡ (b || slice_index_or members other false)
    go true is = ap (λ (k : ℕ). slice_index_or (slice_set members thread true) k false) (sym (eqb-true thread other is)) ∙ get_or-set_same members thread true false few
    go false is = get_or-set_other members thread other true false (λ same. eqb-false thread other is (sym same))
