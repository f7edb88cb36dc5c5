-- What `parse` gives for digits.
use Rattle.std.proofs.Common.{◌≡◌, ℕ, ◌^◌, ◌<◌, true, false, List, [], ◌∷◌, length, refl, ap, ◌∙◌, arith, inl, inr}
use Rattle.std.specs.Prelude.{Result, Err, nat_le, ◌&&◌}
use Rattle.std.specs.Char.{is_ascii_digit}
use Rattle.std.specs.List.{list_all}
use Rattle.std.specs.Str.{IsUtf8, all_ascii_digits}
use Rattle.std.specs.Str.Parse.{digits_value, ParsesUnsigned}
use Rattle.std.proofs.lemmas.Bool.{cond-true, cond-false, lt-leb, cases_lt}
use Rattle.std.proofs.lemmas.Str.{IsUtf8-from_ascii}
use Rattle.std.proofs.lemmas.Fmt.{IsAscii-from_digits}
use Rattle.std.proofs.lemmas.Str.Parse.{IsNumeralModel, numerals_by_value, tells_all_ascii_digits, parse_digits}
use Rattle.adapter_messages.specs.Fields.{is_numeral, length_of}
use Rattle.adapter_messages.specs.declared.fields.Field.TheVariants.{TooLong}

model : IsNumeralModel (λ ds. all_ascii_digits ds ≡ true) (digits_value 10)
model = numerals_by_value (λ ds. all_ascii_digits ds ≡ true) tells_all_ascii_digits

digits_are : (text : List ℕ) → all_ascii_digits text ≡ list_all is_ascii_digit text
digits_are [] = refl
digits_are (c ∷ cs) = ap (λ b. is_ascii_digit c && b) (digits_are cs)

numeral_all : (text : List ℕ) → is_numeral text ≡ true → all_ascii_digits text ≡ true
numeral_all [] h = refl
numeral_all (c ∷ cs) h = digits_are (c ∷ cs) ∙ h

numeral_some : (text : List ℕ) → is_numeral text ≡ true → 0 < length text
numeral_some [] h = absurd cc
numeral_some (c ∷ cs) h = omega arith

pub numeral_is_utf8 : (text : List ℕ) → is_numeral text ≡ true → IsUtf8 text
numeral_is_utf8 text h = IsUtf8-from_ascii text (IsAscii-from_digits text (model.to text (numeral_all text h)))

pub numeral_is : (text : List ℕ) → 0 < length text → list_all is_ascii_digit text ≡ is_numeral text
numeral_is [] h = absurd (omega arith)
numeral_is (c ∷ cs) h = refl

large : (n : ℕ) → ¬ (n < 2 ^ 32) → nat_le n 1048576 ≡ false
large n h = elim (cases_lt n (2 ^ 32)) [ inl below ↦ absurd (h below) | inr above ↦ lt-leb n 1048576 (omega (arith, above)) ]

-- digits that `parse` refuses give more than 32 bits hold
pub refused_is_too_long : {E : Type 0} (text : List ℕ) (r : Result ℕ E) (e : E) → is_numeral text ≡ true → ParsesUnsigned 32 10 text r → r ≡ Err e → length_of text ≡ TooLong
refused_is_too_long text r e h parses is =
    let refused = rw is at (parse_digits model 32 text r parses (numeral_all text h)) in
    rw (cond-true _ _ _ h, cond-false _ _ _ (large (digits_value 10 text) (λ fits. refused (numeral_some text h, fits))))
