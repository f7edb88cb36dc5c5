-- The digits of a number, two at a time.
use Rattle.std.proofs.Common.{◌≡◌, ℕ, ◌+◌, ◌*◌, ◌/◌, ◌%◌, ◌<◌, ◌≤◌, ◌^◌, Bool, true, false, true≢false, List, [], ◌∷◌, ◌++◌, map, take, drop, get_or, nat_lt, IsAscii, refl, sym, ap, ◌∙◌, arith, append_assoc}
use Rattle.std.proofs.lemmas.Bool.{ltb-true}
use Rattle.std.proofs.lemmas.Fmt.{decimal_digit}
use Rattle.std.proofs.lemmas.List.FromFn.{get_or-map-range_with_len}
use Rattle.std.proofs.lemmas.Str.Ascii.{IsAscii-cons, IsAscii-nil}
use Rattle.std.specs.Fmt.{decimal}
use Rattle.std.specs.List.{list_all, range_with_len}
use Rattle.itoa.proofs.Decimal.{pair, decimal_pair}
use Rattle.std.specs.Prelude.{◌&&◌}
use Rattle.debug_views.specs.declared.numbers.TheConstants.{PAIRS}

abbrev piece : ℕ → List ℕ
piece n = take 2 (drop (n * 2) PAIRS.now)

abbrev last : ℕ → List ℕ
last n = take 1 (drop (n * 2 + 1) PAIRS.now)

abbrev one : ℕ → List ℕ
one n = (48 + n) ∷ []

pairs_are : map piece (range_with_len 0 100) ≡ map pair (range_with_len 0 100)
pairs_are = refl

digits_are : map last (range_with_len 0 10) ≡ map one (range_with_len 0 10)
digits_are = refl

-- the two digits of a number stand at twice that number
pub pair_at : (n : ℕ) → n < 100 → piece n ≡ pair n
pair_at n h = sym (get_or-map-range_with_len piece 0 100 n n [] h (omega arith)) ∙ ap (λ t. get_or t n []) pairs_are ∙ get_or-map-range_with_len pair 0 100 n n [] h (omega arith)

pub digit_at : (n : ℕ) → n < 10 → last n ≡ decimal n
digit_at n h =
    sym (get_or-map-range_with_len last 0 10 n n [] h (omega arith))
    ∙ ap (λ t. get_or t n []) digits_are
    ∙ get_or-map-range_with_len one 0 10 n n [] h (omega arith)
    ∙ sym (decimal_digit n h)

both : (a b : Bool) → (a && b) ≡ true → (a ≡ true) × (b ≡ true)
both true b e = (refl, e)
both false b e = absurd (true≢false (sym e))

pub ascii_from : (bs : List ℕ) → list_all (λ b. nat_lt b 128) bs ≡ true → IsAscii bs
ascii_from [] e = IsAscii-nil
ascii_from (b ∷ bs) e = let parts = both _ _ e in IsAscii-cons b bs (ltb-true b 128 parts.0) (ascii_from bs parts.1)

pub IsAscii-pairs : IsAscii PAIRS.now
IsAscii-pairs = ascii_from PAIRS.now refl

-- what was put behind a text in two parts
pub two_parts : (next mid old first second all : List ℕ) → next ≡ mid ++ second → mid ≡ old ++ first → all ≡ first ++ second → next ≡ old ++ all
two_parts next mid old first second all next_is mid_is all_is = next_is ∙ ap (λ l. l ++ second) mid_is ∙ append_assoc old first second ∙ ap (λ l. old ++ l) (sym all_is)

-- the number before the last two digits of a number is put, and then these
pub pair_put : (next mid old two : List ℕ) (n first : ℕ) → 100 ≤ n → n < 2 ^ 64 → n / 100 ≡ first → next ≡ mid ++ two → mid ≡ old ++ decimal first → two ≡ pair (n % 100) → next ≡ old ++ decimal n
pair_put next mid old two n first lo hi is next_is mid_is two_is =
    two_parts next mid old (decimal first) (pair (n % 100)) (decimal n) (next_is ∙ ap (λ l. mid ++ l) two_is) mid_is (decimal_pair n lo hi ∙ ap (λ m. decimal m ++ pair (n % 100)) is)
