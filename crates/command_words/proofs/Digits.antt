-- What `parse` gives for decimal digits.
use Rattle.std.proofs.Common.{◌≡◌, ℕ, ◌^◌, ◌<◌, ◌≤◌, Bool, true, false, List, [], ◌∷◌, ◌++◌, length, refl, sym, ap, subst, ◌∙◌, inl, inr}
use Rattle.std.specs.Prelude.{Result, Err, Option, Some, None, nat_le, if◌then◌else◌}
use Rattle.std.specs.Cmp.{first_so, second_so}
use Rattle.std.specs.Result.{OkIff}
use Rattle.std.specs.Str.{IsUtf8, all_ascii_digits}
use Rattle.std.specs.Str.Parse.{digits_value, ParsesUnsigned}
use Rattle.std.proofs.lemmas.Bool.{ltb-true, le-leb, lt-leb, cond-true, cond-false, cases_lt}
use Rattle.std.proofs.lemmas.Str.{IsUtf8-from_ascii}
use Rattle.std.proofs.lemmas.Fmt.{IsAscii-from_digits}
use Rattle.std.proofs.lemmas.Str.Parse.{parse_digits}
use Rattle.text_lines.proofs.IntegerLemmas.{model, digits_are}
use Rattle.text_lines.specs.Parts.{parts}
use Rattle.command_words.specs.Words.{has_digits_alone, number_up_to, threads_in, in_front, order_in}

all_digits : (text : List ℕ) → has_digits_alone text ≡ true → all_ascii_digits text ≡ true
all_digits text h = digits_are text ∙ second_so _ _ h

some_digit : (text : List ℕ) → has_digits_alone text ≡ true → 0 < length text
some_digit text h = ltb-true 0 (length text) (first_so _ _ h)

pub digits_are_utf8 : (text : List ℕ) → has_digits_alone text ≡ true → IsUtf8 text
digits_are_utf8 text h = IsUtf8-from_ascii text (IsAscii-from_digits text (model.to text (all_digits text h)))

number_is : (most : ℕ) (text : List ℕ) → has_digits_alone text ≡ true → number_up_to most text ≡ (if nat_le (digits_value 10 text) most then Some (digits_value 10 text) else None)
number_is most text h = rw h refl

pub too_large : (most : ℕ) (text : List ℕ) → has_digits_alone text ≡ true → most < digits_value 10 text → number_up_to most text ≡ None
too_large most text h gt = number_is most text h ∙ cond-false _ _ _ (lt-leb (digits_value 10 text) most gt)

pub small : (most : ℕ) (text : List ℕ) → has_digits_alone text ≡ true → digits_value 10 text ≤ most → number_up_to most text ≡ Some (digits_value 10 text)
small most text h le = number_is most text h ∙ cond-true _ _ _ (le-leb (digits_value 10 text) most le)

pub unparsed : {E : Type 0} (text : List ℕ) (r : Result ℕ E) (e : E) → has_digits_alone text ≡ true → ParsesUnsigned 64 10 text r → r ≡ Err e → 2 ^ 64 ≤ digits_value 10 text
unparsed text r e h p is = elim (cases_lt (digits_value 10 text) (2 ^ 64)) [
  | inl lt ↦ absurd (subst (λ r. OkIff r ((0 < length text) × (digits_value 10 text < 2 ^ 64)) (digits_value 10 text)) is (parse_digits model 64 text r p (all_digits text h)) (some_digit text h, lt))
  | inr ge ↦ ge
]

-- these, and those behind them
abbrev pub behind : {X : Type 0} → List X → Option (List X) → Option (List X)
behind [] others = others
behind (x ∷ xs) others = in_front (Some x) (behind xs others)

pub behind_one_more : {X : Type 0} (xs : List X) (x : X) (others : Option (List X)) → behind (xs ++ x ∷ []) others ≡ behind xs (in_front (Some x) others)
behind_one_more [] x others = refl
behind_one_more (y ∷ xs) x others = ap (in_front (Some y)) (behind_one_more xs x others)

pub behind_none : {X : Type 0} (xs : List X) → behind xs None ≡ None
behind_none [] = refl
behind_none (x ∷ xs) = ap (in_front (Some x)) (behind_none xs)

pub behind_nothing : {X : Type 0} (xs : List X) → behind xs (Some []) ≡ Some xs
behind_nothing [] = refl
behind_nothing (x ∷ xs) = ap (in_front (Some x)) (behind_nothing xs)

pub front_none : {X : Type 0} (others : Option (List X)) → in_front None others ≡ None
front_none None = refl
front_none (Some others) = refl

order_none : (text : List ℕ) → threads_in (parts 44 text) ≡ None → None ≡ order_in text
order_none text e = go (nat_le (length (parts 44 text)) 1000000)
  where
    go : (b : Bool) → None ≡ (if b then threads_in (parts 44 text) else None)
    go true = sym e
    go false = refl

-- a part that is no thread's number
pub broken : (text threads part : List ℕ) (left rest : List (List ℕ)) → threads_in (parts 44 text) ≡ behind threads (threads_in left) → left ≡ part ∷ rest → number_up_to 4294967295 part ≡ None → None ≡ order_in text
broken text threads part left rest same l none = order_none text (same ∙ ap (λ x. behind threads (threads_in x)) l ∙ ap (λ n. behind threads (in_front n (threads_in rest))) none ∙ ap (behind threads) (front_none (threads_in rest)) ∙ behind_none threads)

pub one_more : (text threads part : List ℕ) (thread : ℕ) (left rest : List (List ℕ)) → threads_in (parts 44 text) ≡ behind threads (threads_in left) → left ≡ part ∷ rest → number_up_to 4294967295 part ≡ Some thread
    → threads_in (parts 44 text) ≡ behind (threads ++ thread ∷ []) (threads_in rest)
one_more text threads part thread left rest same l some = same ∙ ap (λ x. behind threads (threads_in x)) l ∙ ap (λ n. behind threads (in_front n (threads_in rest))) some ∙ sym (behind_one_more threads thread (threads_in rest))

-- more parts than an order has
pub too_many : (text : List ℕ) → 1000000 < length (parts 44 text) → None ≡ order_in text
too_many text more = sym (cond-false _ _ _ (lt-leb (length (parts 44 text)) 1000000 more))

pub whole : (text threads : List ℕ) (left : List (List ℕ)) → threads_in (parts 44 text) ≡ behind threads (threads_in left) → left ≡ [] → length (parts 44 text) ≤ 1000000 → Some threads ≡ order_in text
whole text threads left same l few = sym (cond-true _ _ _ (le-leb (length (parts 44 text)) 1000000 few) ∙ same ∙ ap (λ x. behind threads (threads_in x)) l ∙ behind_nothing threads)
