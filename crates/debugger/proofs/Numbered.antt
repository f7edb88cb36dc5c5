-- One more line of a list that is written by numbers.
use Rattle.std.proofs.Common.{◌≡◌, ℕ, zero, suc, ◌+◌, List, [], ◌∷◌, ◌++◌, refl, sym, ap, ◌∙◌, arith, append_assoc, take, slice_get}
use Rattle.std.specs.List.{enumerate_from, flat_map}
use Rattle.std.specs.Option.{option_to_list}
use Rattle.debugger.specs.Locals.{lines_of}

module _ {X : Type 0} (line : ℕ → X → List ℕ) where
  -- with numbers from the first on
  lines_from : (first : ℕ) → List X → List ℕ
  lines_from first xs = flat_map (λ p. line p.0 p.1) (enumerate_from first xs)

  lines_one : (first i : ℕ) (xs : List X) → lines_from first (take (suc i) xs) ≡ lines_from first (take i xs) ++ flat_map (line (first + i)) (option_to_list (slice_get xs i))
  unfolding lines_from
  lines_one first zero [] = refl
  lines_one first (suc i) [] = refl
  lines_one first zero (x ∷ xs) = let same : first ≡ first + 0 = omega arith in ap (λ n. line n x ++ []) same
  lines_one first (suc i) (x ∷ xs) =
      let same : first + 1 + i ≡ first + suc i = omega arith in
      let behind = flat_map (line (first + suc i)) (option_to_list (slice_get xs i)) in
      ap (λ ys. line first x ++ ys) (lines_one (first + 1) i xs ∙ ap (λ n. lines_from (first + 1) (take i xs) ++ flat_map (line n) (option_to_list (slice_get xs i))) same)
      ∙ sym (append_assoc (line first x) (lines_from (first + 1) (take i xs)) behind)

  lines_next : (i : ℕ) (xs : List X) → lines_of line (take (i + 1) xs) ≡ lines_of line (take i xs) ++ flat_map (line i) (option_to_list (slice_get xs i))
  unfolding lines_from
  lines_next i xs =
      let one : i + 1 ≡ suc i = omega arith in
      let same : 0 + i ≡ i = omega arith in
      ap (λ n. lines_of line (take n xs)) one ∙ lines_one 0 i xs ∙ ap (λ n. lines_of line (take i xs) ++ flat_map (line n) (option_to_list (slice_get xs i))) same

  pub lines_more : (before text : List ℕ) (i : ℕ) (xs : List X) → text ≡ before ++ lines_of line (take i xs) → text ++ flat_map (line i) (option_to_list (slice_get xs i)) ≡ before ++ lines_of line (take (i + 1) xs)
  lines_more before text i xs so =
      let one = flat_map (line i) (option_to_list (slice_get xs i)) in
      ap (λ l. l ++ one) so ∙ append_assoc before (lines_of line (take i xs)) one ∙ ap (λ l. before ++ l) (sym (lines_next i xs))
