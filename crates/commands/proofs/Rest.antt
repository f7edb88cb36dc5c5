-- Ends at which no thread could still go on, if none may.
use Rattle.std.proofs.Common.{◌≡◌, Bool, true, false, ◌&&◌, ◌||◌, refl, ap, ◌∙◌}
use Rattle.std.specs.Prelude.{not}

pub not_at_rest : (rest shown : Bool) → rest ≡ false → (rest && shown) ≡ false
not_at_rest rest shown e = ap (λ b. b && shown) e

pub at_rest : (rest shown caught : Bool) → rest ≡ true → shown ≡ caught → (rest && shown) ≡ caught
at_rest rest shown caught e h = ap (λ b. b && shown) e ∙ h

either : (b : Bool) → (b || not b) ≡ true
either true = refl
either false = refl

-- where a thread that could go on may be left just if one is
pub as_before : (may leaves shown : Bool) → may ≡ leaves → shown ≡ true → ((may || not leaves) && shown) ≡ true
as_before may leaves shown same h = at_rest (may || not leaves) shown true (ap (λ b. b || not leaves) same ∙ either leaves) h
