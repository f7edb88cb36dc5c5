-- A space is known by its eight parts.
use Rattle.std.proofs.Common.{◌≡◌, ℕ, ◌+◌, ◌*◌, ◌/◌, ◌%◌, ◌<◌, refl, sym, ap, ◌∙◌, subst, arith, zero, suc, Box}
use Rattle.shared_parts.specs.declared.eight.Eight.{Eight}
use Rattle.shared_parts.specs.Parts.{part_values, AreParts}

module _ {Value : Type 0} (f v : ℕ → Value) where
  at_lane : (i : ℕ) → part_values i f ≡ part_values i v → (o : ℕ) → o % 8 ≡ i → f o ≡ v o
  at_lane i e o is =
      let o' : 8 * (o / 8) + i ≡ o = omega (arith, is) in
      subst (λ k. f k ≡ v k) o' (ap (λ g. g (o / 8)) e)

  one_of_eight : (o k : ℕ) → k < 8 → o % 8 ≡ k → part_values 0 f ≡ part_values 0 v → part_values 1 f ≡ part_values 1 v → part_values 2 f ≡ part_values 2 v → part_values 3 f ≡ part_values 3 v
      → part_values 4 f ≡ part_values 4 v → part_values 5 f ≡ part_values 5 v → part_values 6 f ≡ part_values 6 v → part_values 7 f ≡ part_values 7 v → f o ≡ v o
  one_of_eight o zero low is a b c d e g h i = at_lane 0 a o is
  one_of_eight o (suc zero) low is a b c d e g h i = at_lane 1 b o is
  one_of_eight o (suc (suc zero)) low is a b c d e g h i = at_lane 2 c o is
  one_of_eight o (suc (suc (suc zero))) low is a b c d e g h i = at_lane 3 d o is
  one_of_eight o (suc (suc (suc (suc zero)))) low is a b c d e g h i = at_lane 4 e o is
  one_of_eight o (suc (suc (suc (suc (suc zero))))) low is a b c d e g h i = at_lane 5 g o is
  one_of_eight o (suc (suc (suc (suc (suc (suc zero)))))) low is a b c d e g h i = at_lane 6 h o is
  one_of_eight o (suc (suc (suc (suc (suc (suc (suc zero))))))) low is a b c d e g h i = at_lane 7 i o is
  one_of_eight o (suc (suc (suc (suc (suc (suc (suc (suc k)))))))) low is a b c d e g h i = absurd (omega (arith, low))

  pub same_values : part_values 0 f ≡ part_values 0 v → part_values 1 f ≡ part_values 1 v → part_values 2 f ≡ part_values 2 v → part_values 3 f ≡ part_values 3 v
      → part_values 4 f ≡ part_values 4 v → part_values 5 f ≡ part_values 5 v → part_values 6 f ≡ part_values 6 v → part_values 7 f ≡ part_values 7 v → f ≡ v
  same_values a b c d e g h i = λ k o. one_of_eight o (o % 8) (omega arith) refl a b c d e g h i k

module _ {Part Value Fixed : Type 0} (lane : Part → ℕ) (part_fixed : Part → Fixed) (held : Part → ℕ → Value) where
  -- eight parts are of one space
  pub one_whole : {A : Type 0} (fixed fixed' : Fixed) (values values' : ℕ → Value) (parts : Eight (Box Part A)) → AreParts lane part_fixed held fixed values parts → AreParts lane part_fixed held fixed' values' parts
      → (fixed ≡ fixed') × (values ≡ values')
  one_whole fixed fixed' values values' parts p q = (
    sym p.zero.is_fixed ∙ q.zero.is_fixed,
    same_values values values'
        (sym p.zero.is_held ∙ q.zero.is_held) (sym p.one.is_held ∙ q.one.is_held) (sym p.two.is_held ∙ q.two.is_held) (sym p.three.is_held ∙ q.three.is_held)
        (sym p.four.is_held ∙ q.four.is_held) (sym p.five.is_held ∙ q.five.is_held) (sym p.six.is_held ∙ q.six.is_held) (sym p.seven.is_held ∙ q.seven.is_held),
  )
