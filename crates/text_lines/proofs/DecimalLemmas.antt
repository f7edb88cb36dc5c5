-- Integers in decimal are as `{}` writes them.
use Rattle.std.proofs.Common.{◌≡◌, ◌≢◌, ℕ, zero, suc, ◌-◌, ◌^◌, ◌<◌, Bool, true, false, List, [], ◌∷◌, length, refl, sym, ap, subst, ◌∙◌, arith, inl, inr, get_or, lit<}
use Rattle.std.specs.Prelude.{Some, ℤ, pos, negsuc, neg_ℤ, slice_index, ◌||◌, ◌&&◌, not, nat_lt}
use Rattle.std.specs.Fmt.{decimal, signed_decimal}
use Rattle.std.specs.Char.{is_ascii_digit}
use Rattle.std.specs.List.{list_all}
use Rattle.std.specs.Str.Parse.{digits_value, signed_digits_value, starts_with_minus}
use Rattle.std.proofs.lemmas.Bool.{ltb-true, cond-false, ne_eqb, eqb-true}
use Rattle.std.proofs.lemmas.Option.{cond_some}
use Rattle.std.proofs.lemmas.Str.Parse.{not_in_digits}
use Rattle.std.proofs.lemmas.Fmt.{decimal-digits_value, digits_decimal, digits_value-decimal, decimal_nonempty, first_decimal, decimal_digit}
use Rattle.text_lines.specs.Integers.{is_positive, is_decimal, bits_of}
use Rattle.text_lines.proofs.IntegerLemmas.{model, IsDigits, digits_are, positive_is, positive_first, zero_or_positive, plain_digits, minus_digits, minus_positive, plain_value, minus_is}

-- a leading zero stands alone
lone_zero : (text : List ℕ) → is_decimal text ≡ true → starts_with_minus text ≡ false → get_or text 0 0 ≡ 48 → length text ≡ 1
lone_zero text h plain first = elim (zero_or_positive text h) [
  | inl zero_is ↦ ap length zero_is
  | inr positive ↦ absurd (positive_first text (sym (ap is_positive (cond-false _ _ _ plain)) ∙ positive) first)
]

plain_text : (text : List ℕ) (bits : ℕ) → is_decimal text ≡ true → starts_with_minus text ≡ false → bits_of 64 (signed_digits_value 10 text) ≡ Some bits → text ≡ signed_decimal (signed_digits_value 10 text)
plain_text text bits h plain fits =
    let d = plain_digits text h plain in
    let v : signed_digits_value 10 text ≡ pos (digits_value 10 text) = plain_value text d plain in
    let p = cond_some (nat_lt (digits_value 10 text) (2 ^ 64)) (digits_value 10 text) bits (ap (bits_of 64) (sym v) ∙ fits) in
    sym (decimal-digits_value model text d.all d.some (lone_zero text h plain) (ltb-true _ _ p.0)) ∙ ap signed_decimal (sym v)

-- what `-` and digits spell
minus_by_value : (digits : List ℕ) (v bits : ℕ) → IsDigits digits → get_or digits 0 0 ≢ 48 → digits_value 10 digits ≡ v → bits_of 64 (neg_ℤ (pos v)) ≡ Some bits → 45 ∷ digits ≡ signed_decimal (neg_ℤ (pos v))
minus_by_value digits zero bits d first is fits =
    let small : digits_value 10 digits < 2 ^ 64 = subst (λ (n : ℕ). n < 2 ^ 64) (sym is) (lit< tt) in
    let same : decimal (digits_value 10 digits) ≡ digits = decimal-digits_value model digits d.all d.some (λ e. absurd (first e)) small in
    absurd (first (ap (λ l. get_or l 0 0) (sym same ∙ ap decimal is ∙ decimal_digit 0 (lit< tt))))
minus_by_value digits (suc k) bits d first is fits =
    let p = cond_some (nat_lt k (2 ^ 63)) (2 ^ 64 - suc k) bits fits in
    let low : k < 2 ^ 63 = ltb-true _ _ p.0 in
    let small : digits_value 10 digits < 2 ^ 64 = omega arith in
    ap (λ l. 45 ∷ l) (sym (decimal-digits_value model digits d.all d.some (λ e. absurd (first e)) small) ∙ ap decimal is)

minus_text : (text : List ℕ) (bits : ℕ) → is_decimal text ≡ true → starts_with_minus text ≡ true → bits_of 64 (signed_digits_value 10 text) ≡ Some bits → text ≡ signed_decimal (signed_digits_value 10 text)
minus_text [] bits h minus fits = absurd cc
minus_text (c ∷ cs) bits h minus fits =
    let d = minus_digits (c ∷ cs) h minus in
    let v : signed_digits_value 10 (c ∷ cs) ≡ neg_ℤ (pos (digits_value 10 cs)) = minus_is (c ∷ cs) minus in
    ap (λ b. b ∷ cs) (eqb-true c 45 minus) ∙ minus_by_value cs (digits_value 10 cs) bits d (positive_first cs (minus_positive (c ∷ cs) h minus)) refl (ap (bits_of 64) (sym v) ∙ fits) ∙ ap signed_decimal (sym v)

text_by : (text : List ℕ) (bits : ℕ) (minus : Bool) → starts_with_minus text ≡ minus → is_decimal text ≡ true → bits_of 64 (signed_digits_value 10 text) ≡ Some bits → text ≡ signed_decimal (signed_digits_value 10 text)
text_by text bits true e h fits = minus_text text bits h e fits
text_by text bits false e h fits = plain_text text bits h e fits

pub text_is_decimal : (text : List ℕ) (number : ℤ) (bits : ℕ) → bits_of 64 number ≡ Some bits → is_decimal text ≡ true → signed_digits_value 10 text ≡ number → text ≡ signed_decimal number
text_is_decimal text number bits fits h v = text_by text bits (starts_with_minus text) refl h (ap (bits_of 64) v ∙ fits) ∙ ap signed_decimal v

or_right : (a b : Bool) → b ≡ true → (a || b) ≡ true
or_right true b e = refl
or_right false b e = e

decimal_digits : (n : ℕ) → n < 2 ^ 64 → IsDigits (decimal n)
decimal_digits n h = record { all = digits_decimal model n h; some = decimal_nonempty n h }

decimal_positive : (n : ℕ) → 0 < n → n < 2 ^ 64 → is_positive (decimal n) ≡ true
decimal_positive n some h =
    let d = decimal_digits n h in
    let first : 48 < slice_index (decimal n) 0 = first_decimal n some h in
    positive_is (decimal n) d.some ∙ ap (λ b. not b && list_all is_ascii_digit (decimal n)) (ne_eqb _ _ (λ e. omega arith)) ∙ sym (digits_are (decimal n)) ∙ d.all

no_minus : (n : ℕ) → n < 2 ^ 64 → starts_with_minus (decimal n) ≡ false
no_minus n h = let d = decimal_digits n h in ne_eqb _ _ (not_in_digits model (decimal n) 45 d.all (λ r. omega (arith, r.0)) 0 d.some)

decimal_is : (n : ℕ) → n < 2 ^ 64 → is_decimal (decimal n) ≡ true
decimal_is zero h = ap is_decimal (decimal_digit 0 (lit< tt))
decimal_is (suc k) h = or_right _ _ (ap is_positive (cond-false _ _ _ (no_minus (suc k) h)) ∙ decimal_positive (suc k) (omega arith) h)

pub decimal_is_text : (number : ℤ) (bits : ℕ) → bits_of 64 number ≡ Some bits → (is_decimal (signed_decimal number) ≡ true) × (signed_digits_value 10 (signed_decimal number) ≡ number)
decimal_is_text (pos n) bits fits =
    let h : n < 2 ^ 64 = ltb-true _ _ (cond_some (nat_lt n (2 ^ 64)) n bits fits).0 in
    (decimal_is n h, plain_value (decimal n) (decimal_digits n h) (no_minus n h) ∙ ap pos (digits_value-decimal model n h))
decimal_is_text (negsuc k) bits fits =
    let low : k < 2 ^ 63 = ltb-true _ _ (cond_some (nat_lt k (2 ^ 63)) (2 ^ 64 - suc k) bits fits).0 in
    let h : suc k < 2 ^ 64 = omega arith in
    (decimal_positive (suc k) (omega arith) h, ap (λ n. neg_ℤ (pos n)) (digits_value-decimal model (suc k) h))
