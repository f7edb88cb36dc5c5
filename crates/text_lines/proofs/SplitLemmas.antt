-- Parts of a text have no separator, and joined they are the text.
use Rattle.std.proofs.Common.{◌≡◌, ◌≢◌, ℕ, suc, ◌-◌, ◌⊎◌, Bool, true, false, List, [], ◌∷◌, ◌++◌, length, take, slice_index, refl, sym, ap, ◌∙◌, arith, inl, inr}
use Rattle.std.proofs.Math.Seq.{take-suc, take-length}
use Rattle.std.specs.Prelude.{All, ◌==◌, cond}
use Rattle.std.specs.List.{list_all, flat_map, onto_first, join_with_byte}
use Rattle.std.specs.Cmp.{second_so, first_so}
use Rattle.std.specs.Str.{all_ascii_digits}
use Rattle.std.specs.Str.Parse.{starts_with_minus}
use Rattle.std.proofs.lemmas.Bool.{ne_eqb, eqb-true, eqb-false}
use Rattle.std.proofs.lemmas.List.{append-nil}
use Rattle.std.proofs.lemmas.List.Elements.{All-cons, All-from_get_or, All-get_or}
use Rattle.std.proofs.lemmas.List.Splits.{slice_split_none, slice_split_at, join_with_byte-slice_split}
use Rattle.std.proofs.lemmas.Str.Parse.{not_in_digits}
use Rattle.text_lines.specs.Parts.{parts, words, without_last_end, lines}
use Rattle.text_lines.specs.Integers.{is_decimal}
use Rattle.text_lines.specs.Spelling.{IsTextOf}
use Rattle.text_lines.proofs.IntegerLemmas.{model, minus_digits, plain_digits}

-- no byte of these is a separator
abbrev pub Without : ℕ → List ℕ → Type 0
Without c bytes = All (λ b. (b == c) ≡ false) bytes

abbrev pub AllWithout : ℕ → List (List ℕ) → Type 0
AllWithout c [] = Unit {0}
AllWithout c (part ∷ others) = Without c part × AllWithout c others

first_grows : (c b : ℕ) (others : List (List ℕ)) → (b == c) ≡ false → AllWithout c others → AllWithout c (onto_first b others)
first_grows c b [] e s = (All-cons (λ x. (x == c) ≡ false) b [] e (λ k d lt. absurd (omega arith)), tt)
first_grows c b (part ∷ others) e s = (All-cons (λ x. (x == c) ≡ false) b part e s.0, s.1)

parts_step : (c b : ℕ) (others : List (List ℕ)) (is : Bool) → (b == c) ≡ is → AllWithout c others → AllWithout c (cond is ([] ∷ others) (onto_first b others))
parts_step c b others true e s = (λ k d lt. absurd (omega arith), s)
parts_step c b others false e s = first_grows c b others e s

pub parts_without : (c : ℕ) (bytes : List ℕ) → AllWithout c (parts c bytes)
parts_without c [] = (λ k d lt. absurd (omega arith), tt)
parts_without c (b ∷ bs) = parts_step c b (parts c bs) (b == c) refl (parts_without c bs)

pub differ : (c : ℕ) (bytes : List ℕ) → Without c bytes → All (λ b. b ≢ c) bytes
differ c bytes w = All-from_get_or (λ b. b ≢ c) bytes 0 (λ k lt. eqb-false _ _ (All-get_or (λ b. (b == c) ≡ false) bytes k 0 lt w))

all_differ : (c : ℕ) (ls : List (List ℕ)) → AllWithout c ls → All (λ l. All (λ b. b ≢ c) l) ls
all_differ c [] s = λ k d lt. absurd (omega arith)
all_differ c (l ∷ ls) s = All-cons (λ x. All (λ b. b ≢ c) x) l ls (differ c l s.0) (all_differ c ls s.1)

pub joined : (x : List ℕ) (xs : List (List ℕ)) → join_with_byte 32 (x ∷ xs) ≡ x ++ flat_map (λ a. 32 ∷ a) xs
joined x [] = sym (append-nil x)
joined x (y ∷ ys) = ap (λ l. x ++ 32 ∷ l) (joined y ys)

pub split_joined : (x : List ℕ) (xs : List (List ℕ)) → Without 32 x → AllWithout 32 xs → words (x ++ flat_map (λ a. 32 ∷ a) xs) ≡ x ∷ xs
split_joined x [] s t = ap words (append-nil x) ∙ slice_split_none (λ b. b == 32) x s
split_joined x (y ∷ ys) s t = slice_split_at (λ b. b == 32) x 32 (y ++ flat_map (λ a. 32 ∷ a) ys) s refl ∙ ap (λ l. x ∷ l) (split_joined y ys t.0 t.1)

digits_spaceless : (text : List ℕ) → all_ascii_digits text ≡ true → Without 32 text
digits_spaceless text d = All-from_get_or (λ b. (b == 32) ≡ false) text 0 (λ k lt. ne_eqb _ _ (not_in_digits model text 32 d (λ r. omega (arith, r.0)) k lt))

integer_spaceless : (text : List ℕ) (minus : Bool) → starts_with_minus text ≡ minus → is_decimal text ≡ true → Without 32 text
integer_spaceless [] true e h = absurd cc
integer_spaceless (c ∷ cs) true e h =
    let is : c ≡ 45 = eqb-true c 45 e in
    All-cons (λ b. (b == 32) ≡ false) c cs (ne_eqb c 32 (λ n. omega arith)) (digits_spaceless cs (minus_digits (c ∷ cs) h e).all)
integer_spaceless text false e h = digits_spaceless text (plain_digits text h e).all

pub integers_spaceless : (texts : List (List ℕ)) → list_all is_decimal texts ≡ true → AllWithout 32 texts
integers_spaceless [] h = tt
integers_spaceless (text ∷ texts) h = (integer_spaceless text (starts_with_minus text) refl (first_so _ _ h), integers_spaceless texts (second_so _ _ h))

last_is : (text : List ℕ) (n : ℕ) → length text ≡ suc n → slice_index text n ≡ 10 → take n text ++ 10 ∷ [] ≡ text
last_is text n e is = ap (λ c. take n text ++ c ∷ []) (sym is) ∙ sym (take-suc text n 0 (omega arith)) ∙ ap (λ k. take k text) (sym e) ∙ take-length text

ended : (text : List ℕ) (is : Bool) → (slice_index text (length text - 1) == 10) ≡ is
    → (cond is (take (length text - 1) text) text ≡ text) ⊎ (cond is (take (length text - 1) text) text ++ 10 ∷ [] ≡ text)
ended [] true e = absurd cc
ended (b ∷ bs) true e = inr (last_is (b ∷ bs) (length (b ∷ bs) - 1) (omega arith) (eqb-true _ _ e))
ended text false e = inl refl

pub lines_are_of_text : (text : List ℕ) → IsTextOf text (lines text)
lines_are_of_text text = record {
  lines_have_no_end = all_differ 10 (lines text) (parts_without 10 (without_last_end text));
  joined = elim (ended text (slice_index text (length text - 1) == 10) refl) [
    | inl same ↦ inl (join_with_byte-slice_split 10 (without_last_end text) ∙ same)
    | inr same ↦ inr (ap (λ l. l ++ 10 ∷ []) (join_with_byte-slice_split 10 (without_last_end text)) ∙ same)
  ];
}
