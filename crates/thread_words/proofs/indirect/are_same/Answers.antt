use Rattle.std.proofs.Common.{◌≡◌, suc, List, [], ◌∷◌, length, Bool, true, false, ◌&&◌, refl, ap}
use Rattle.wasm_types.specs.declared.value.ValType.{ValType}
use Rattle.wasm_types.specs.Values.{same_type}
use Rattle.validator.specs.Table.{same_types}
use Rattle.thread_words.proofs.indirect.are_same.Goals as goal

other_lengths : (xs ys : List ValType) → (length xs ≡ length ys → ⊥) → false ≡ same_types xs ys
other_lengths [] [] h = absurd (h refl)
other_lengths [] (y ∷ ys) h = refl
other_lengths (x ∷ xs) [] h = refl
other_lengths (x ∷ xs) (y ∷ ys) h = by (same_type x y) (other_lengths xs ys (λ e. h (ap suc e)))
  where
    by : (b : Bool) → false ≡ same_types xs ys → false ≡ (b && same_types xs ys)
    by true e = e
    by false e = refl

pub returns-then-first-second : goal.returns-then-first-second
returns-then-first-second c = other_lengths c.args.first.now c.args.second.now c.if-first-second.true
