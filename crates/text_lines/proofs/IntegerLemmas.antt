-- What `parse` gives for the text of an integer.
use Rattle.std.proofs.Common.{◌≡◌, ◌≢◌, ℕ, zero, suc, ◌-◌, ◌^◌, ◌<◌, ◌≤◌, ◌⊎◌, Bool, true, false, List, [], ◌∷◌, length, drop, refl, sym, ap, subst, ◌∙◌, arith, inl, inr, get_or, lit<}
use Rattle.std.specs.Prelude.{Result, Ok, Err, Some, None, ℤ, pos, neg_ℤ, codes, slice_index, ◌==◌, option_map, ◌||◌, ◌&&◌, not}
use Rattle.std.specs.Result.{result_ok, OkIff}
use Rattle.std.specs.Cmp.{first_so, second_so}
use Rattle.std.specs.Char.{is_ascii_digit}
use Rattle.std.specs.List.{list_all}
use Rattle.std.specs.Int.{cast_unsigned}
use Rattle.std.specs.Str.{IsUtf8, IsAscii, all_ascii_digits, bytes_eq}
use Rattle.std.specs.Str.Parse.{digits_value, signed_digits_value, starts_with_minus, ParsesUnsigned, ParsesSigned}
use Rattle.std.proofs.lemmas.Bool.{eqb-true, eq-eqb, cond-true, cond-false, lt-ltb, le-ltb, cases_lt}
use Rattle.std.proofs.lemmas.Slice.Eq.{bytes_eq-Decides}
use Rattle.std.proofs.lemmas.Str.{IsUtf8-from_ascii}
use Rattle.std.proofs.lemmas.Str.Ascii.{IsAscii-cons}
use Rattle.std.proofs.lemmas.Fmt.{IsAscii-from_digits}
use Rattle.std.proofs.lemmas.Str.Parse.{IsNumeralModel, numerals_by_value, tells_all_ascii_digits, not_in_digits, without_leading_plus_none, parse_digits, parse_signed_minus}
use mir.Syntax.{Width, w8, w16, w32, w64, w128}
use mir.Val.{bits, hbits}
use Rattle.text_lines.specs.Integers.{is_positive, without_minus, is_decimal, bits_of}

pub model : IsNumeralModel (λ ds. all_ascii_digits ds ≡ true) (digits_value 10)
model = numerals_by_value (λ ds. all_ascii_digits ds ≡ true) tells_all_ascii_digits

-- one digit or more
pub record IsDigits (text : List ℕ) : Type 0 where
  pub all : all_ascii_digits text ≡ true
  pub some : 0 < length text

pub digits_are : (text : List ℕ) → all_ascii_digits text ≡ list_all is_ascii_digit text
digits_are [] = refl
digits_are (c ∷ cs) = ap (λ b. is_ascii_digit c && b) (digits_are cs)

positive_digits : (text : List ℕ) → is_positive text ≡ true → IsDigits text
positive_digits [] h = absurd cc
positive_digits (c ∷ cs) h = record { all = digits_are (c ∷ cs) ∙ second_so _ _ h; some = omega arith }

pub positive_is : (text : List ℕ) → 0 < length text → is_positive text ≡ (not (slice_index text 0 == 48) && list_all is_ascii_digit text)
positive_is [] h = absurd (omega arith)
positive_is (c ∷ cs) h = refl

either : (a b : Bool) → (a || b) ≡ true → (a ≡ true) ⊎ (b ≡ true)
either true b h = inl refl
either false b h = inr h

pub zero_or_positive : (text : List ℕ) → is_decimal text ≡ true → (text ≡ 48 ∷ []) ⊎ (is_positive (without_minus text) ≡ true)
zero_or_positive text h = elim (either (bytes_eq text (codes "0")) (is_positive (without_minus text)) h) [
  | inl zero_is ↦ inl ((bytes_eq-Decides text (48 ∷ [])).0 zero_is)
  | inr positive ↦ inr positive
]

pub positive_first : (text : List ℕ) → is_positive text ≡ true → get_or text 0 0 ≢ 48
positive_first [] h e = absurd cc
positive_first (c ∷ cs) h e = absurd (let no_zero : not (c == 48) ≡ true = first_so _ _ h in let is_zero : (c == 48) ≡ true = eq-eqb c 48 e in cc)

pub minus_positive : (text : List ℕ) → is_decimal text ≡ true → starts_with_minus text ≡ true → is_positive (drop 1 text) ≡ true
minus_positive text h minus = elim (zero_or_positive text h) [
  | inl zero_is ↦ absurd (let no : starts_with_minus (48 ∷ []) ≡ true = subst (λ (t : List ℕ). starts_with_minus t ≡ true) zero_is minus in cc)
  | inr positive ↦ sym (ap is_positive (cond-true _ _ _ minus)) ∙ positive
]

pub minus_digits : (text : List ℕ) → is_decimal text ≡ true → starts_with_minus text ≡ true → IsDigits (drop 1 text)
minus_digits text h minus = positive_digits (drop 1 text) (minus_positive text h minus)

pub plain_digits : (text : List ℕ) → is_decimal text ≡ true → starts_with_minus text ≡ false → IsDigits text
plain_digits text h plain = elim (zero_or_positive text h) [
  | inl zero_is ↦ subst (λ (t : List ℕ). IsDigits t) (sym zero_is) (record { all = refl; some = omega arith })
  | inr positive ↦ positive_digits text (sym (ap is_positive (cond-false _ _ _ plain)) ∙ positive)
]

ascii_by : (text : List ℕ) (minus : Bool) → starts_with_minus text ≡ minus → is_decimal text ≡ true → IsAscii text
ascii_by [] true e h = absurd cc
ascii_by (c ∷ cs) true e h = IsAscii-cons c cs (let is : c ≡ 45 = eqb-true c 45 e in omega arith) (IsAscii-from_digits cs (model.to cs (minus_digits (c ∷ cs) h e).all))
ascii_by text false e h = IsAscii-from_digits text (model.to text (plain_digits text h e).all)

pub decimal_is_utf8 : (text : List ℕ) → is_decimal text ≡ true → IsUtf8 text
decimal_is_utf8 text h = IsUtf8-from_ascii text (ascii_by text (starts_with_minus text) refl h)

pub plain_value : (text : List ℕ) → IsDigits text → starts_with_minus text ≡ false → signed_digits_value 10 text ≡ pos (digits_value 10 text)
plain_value text d plain =
    let no_plus : get_or text 0 0 ≢ 43 = not_in_digits model text 43 d.all (λ r. omega (arith, r.0)) 0 d.some in
    cond-false _ _ _ plain ∙ ap (λ t. pos (digits_value 10 t)) (cond-false _ _ _ plain ∙ without_leading_plus_none text no_plus)

plain_by : {E : Type 0} (k v n : ℕ) (r : Result ℕ E) → 0 < n → OkIff r ((0 < n) × (v < 2 ^ k)) v → result_ok r ≡ bits_of k (pos v)
plain_by k v n (Ok x) some p = ap (λ (b : ℕ). Some b) p.1 ∙ sym (cond-true _ _ _ (lt-ltb v (2 ^ k) p.0.1))
plain_by k v n (Err e) some p = sym (cond-false _ _ _ (le-ltb v (2 ^ k) (elim (cases_lt v (2 ^ k)) [ inl lt ↦ absurd (p (some, lt)) | inr ge ↦ ge ])))

pub plain_bits : {E : Type 0} (k : ℕ) (text : List ℕ) (r : Result ℕ E) → is_decimal text ≡ true → starts_with_minus text ≡ false → ParsesUnsigned k 10 text r → result_ok r ≡ bits_of k (signed_digits_value 10 text)
plain_bits k text r h plain parses =
    let d = plain_digits text h plain in
    plain_by k (digits_value 10 text) (length text) r d.some (parse_digits model k text r parses d.all) ∙ ap (bits_of k) (sym (plain_value text d plain))

pub minus_is : (text : List ℕ) → starts_with_minus text ≡ true → signed_digits_value 10 text ≡ neg_ℤ (pos (digits_value 10 (drop 1 text)))
minus_is text minus = cond-true _ _ _ minus ∙ ap (λ t. neg_ℤ (pos (digits_value 10 t))) (cond-true _ _ _ minus)

half : (w : Width) → bits w - 1 ≡ hbits w
half w8 = refl
half w16 = refl
half w32 = refl
half w64 = refl
half w128 = refl

some_power : (w : Width) → 0 < 2 ^ bits w
some_power w8 = lit< tt
some_power w16 = lit< tt
some_power w32 = lit< tt
some_power w64 = lit< tt
some_power w128 = lit< tt

minus_value : (w : Width) (v : ℕ) → v ≤ 2 ^ hbits w → Some (cast_unsigned w (neg_ℤ (pos v))) ≡ bits_of (bits w) (neg_ℤ (pos v))
minus_value w zero fits = sym (cond-true _ _ _ (lt-ltb 0 (2 ^ bits w) (some_power w)))
minus_value w (suc v) fits = sym (cond-true _ _ _ (lt-ltb v (2 ^ (bits w - 1)) (rw (half w) (omega arith))))

minus_none : (w : Width) (v : ℕ) → 2 ^ hbits w < v → None ≡ bits_of (bits w) (neg_ℤ (pos v))
minus_none w zero far = absurd (omega arith)
minus_none w (suc v) far = sym (cond-false _ _ _ (le-ltb v (2 ^ (bits w - 1)) (rw (half w) (omega arith))))

minus_by : {E : Type 0} (w : Width) (v : ℕ) (r : Result ℤ E) (P Q : Type 0) → P → Q → OkIff r (P × Q × (v ≤ 2 ^ hbits w)) (neg_ℤ (pos v))
    → option_map (cast_unsigned w) (result_ok r) ≡ bits_of (bits w) (neg_ℤ (pos v))
minus_by w v (Ok x) P Q p q f = ap (λ z. Some (cast_unsigned w z)) f.1 ∙ minus_value w v f.0.2
minus_by w v (Err e) P Q p q f = minus_none w v (elim (cases_lt (2 ^ hbits w) v) [ inl lt ↦ lt | inr ge ↦ absurd (f (p, q, ge)) ])

pub minus_bits : {E : Type 0} (w : Width) (text : List ℕ) (r : Result ℤ E) → is_decimal text ≡ true → starts_with_minus text ≡ true → ParsesSigned w 10 text r
    → option_map (cast_unsigned w) (result_ok r) ≡ bits_of (bits w) (signed_digits_value 10 text)
minus_bits w text r h minus parses =
    let d = minus_digits text h minus in
    minus_by w (digits_value 10 (drop 1 text)) r _ _ d.all d.some (parse_signed_minus model w text r parses (eqb-true (get_or text 0 0) 45 minus))
    ∙ ap (bits_of (bits w)) (sym (minus_is text minus))
