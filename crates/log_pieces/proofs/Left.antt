-- What is left of the pages.
use Rattle.std.proofs.Common.{◌≡◌, ℕ, zero, suc, ◌+◌, ◌-◌, ◌*◌, ◌<◌, List, [], ◌∷◌, Some, None, refl, arith}
use Rattle.log_pieces.specs.declared.flat.Flat.{Flat}
use Rattle.log_pieces.specs.declared.page.Page.{Page}
use Rattle.log_pieces.specs.PackedClaim.{Reads, read_pair}
use Rattle.log_pieces.specs.Runs.{left_of}

abbrev pub one_if : ℕ → ℕ
one_if zero = 0
one_if (suc n) = 1

module _ {T : Type 0} (read : Reads T) where
  -- the next pair is read, or none can be read, or a page is opened
  pub left_more : (number left : ℕ) (rest : List ℕ) (pages : List (ℕ × Page)) (pair : ℕ × Flat T) (behind : List ℕ) → 0 < left → read_pair read rest ≡ Some (pair, behind)
      → left_of read number left rest pages ≡ (128 * number + pair.0, pair.1) ∷ left_of read number (left - 1) behind pages
  left_more number zero rest pages pair behind some e = absurd (omega (arith, some))
  left_more number (suc left) rest pages pair behind some e =
      let one : suc left - 1 ≡ left = omega arith in
      rw (e, one) refl

  pub left_stuck : (number left : ℕ) (rest : List ℕ) (pages : List (ℕ × Page)) → read_pair read rest ≡ None → left_of read number left rest pages ≡ left_of read number 0 rest pages
  left_stuck number zero rest pages e = refl
  left_stuck number (suc left) rest pages e = rw e refl

  pub left_page : (number : ℕ) (rest : List ℕ) (pages others : List (ℕ × Page)) (e : ℕ × Page) → pages ≡ e ∷ others → left_of read number 0 rest pages ≡ left_of read e.0 e.1.count e.1.bytes.items others
  left_page number rest pages others e next = rw next refl

  pub left_none : (number : ℕ) (rest : List ℕ) (pages : List (ℕ × Page)) → pages ≡ [] → left_of read number 0 rest pages ≡ []
  left_none number rest pages end = rw end refl
