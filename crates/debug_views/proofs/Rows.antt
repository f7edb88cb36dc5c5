-- One row more.
use Rattle.std.proofs.Common.{◌≡◌, ℕ, ◌+◌, ◌-◌, ◌*◌, true, false, List, ◌++◌, take, drop, sym, ap, ◌∙◌, arith, append_assoc, add-one}
use Rattle.std.specs.Prelude.{◌==◌}
use Rattle.std.specs.List.{list_all}
use Rattle.std.proofs.lemmas.Bool.{cond-true, cond-false}
use Rattle.std.proofs.lemmas.List.{append-nil}
use Rattle.debug_views.specs.Report.{bytes_of_row, shown, row_text, rows_text}

-- the bytes from a row's beginning to its end
pub same_row : (memory : List ℕ) (row : ℕ) → take (row * 16 + 16 - row * 16) (drop (row * 16) memory) ≡ bytes_of_row memory row
same_row memory row = ap (λ (n : ℕ). take n (drop (row * 16) memory)) sixteen
  where
    sixteen : row * 16 + 16 - row * 16 ≡ 16
    sixteen = omega arith

pub no_row : (memory : List ℕ) (row : ℕ) (front : List ℕ) → list_all (λ b. b == 0) (bytes_of_row memory row) ≡ true → front ≡ front ++ row_text memory row
no_row memory row front z = sym (ap (λ (l : List ℕ). front ++ l) (cond-true _ _ _ z) ∙ append-nil front)

pub one_row : (memory : List ℕ) (row : ℕ) → list_all (λ b. b == 0) (bytes_of_row memory row) ≡ false → row_text memory row ≡ shown (row * 16) (bytes_of_row memory row)
one_row memory row z = cond-false _ _ _ z

pub row_more : (memory front now next : List ℕ) (row : ℕ) → now ≡ front ++ rows_text memory row → next ≡ now ++ row_text memory row → next ≡ front ++ rows_text memory (row + 1)
row_more memory front now next row so_far more =
    more ∙ ap (λ (l : List ℕ). l ++ row_text memory row) so_far ∙ append_assoc front (rows_text memory row) (row_text memory row)
    ∙ ap (λ (n : ℕ). front ++ rows_text memory n) (sym (add-one row))
