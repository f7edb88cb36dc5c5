-- The hexadecimal digits of a number, two at a time.
use Rattle.std.proofs.Common.{◌≡◌, ℕ, zero, suc, ◌+◌, ◌*◌, ◌/◌, ◌%◌, ◌<◌, ◌≤◌, ◌^◌, Bool, false, if◌then◌else◌, List, [], ◌∷◌, ◌++◌, map, take, drop, get_or, IsAscii, refl, sym, ap, ◌∙◌, arith, append_assoc}
use borrow.Author.Tests.{eq-eqb, ne_eqb}
use Rattle.std.proofs.lemmas.Fmt.{hex_one_digit}
use Rattle.std.proofs.lemmas.List.FromFn.{get_or-map-range_with_len}
use Rattle.std.specs.Fmt.{digits, digit_glyph, digits_onto}
use Rattle.std.specs.List.{range_with_len}
use Rattle.std.proofs.Math.Logic.{⊎_elim}
use Rattle.std.proofs.lemmas.Bool.{cases_lt}
use Rattle.debug_views.proofs.Pairs.{ascii_from, two_parts}
use Rattle.debug_views.specs.declared.hexadecimal.TheConstants.{BYTES}

abbrev pub hex : ℕ → List ℕ
hex n = digits 16 false n

-- the two digits of a number below 256
abbrev pub byte : ℕ → List ℕ
byte n = digit_glyph false (n / 16) ∷ digit_glyph false (n % 16) ∷ []

abbrev piece : ℕ → List ℕ
piece n = take 2 (drop (n * 2) BYTES.now)

abbrev last : ℕ → List ℕ
last n = take 1 (drop (n * 2 + 1) BYTES.now)

abbrev one : ℕ → List ℕ
one n = digit_glyph false n ∷ []

bytes_are : map piece (range_with_len 0 256) ≡ map byte (range_with_len 0 256)
bytes_are = refl

digits_are : map last (range_with_len 0 16) ≡ map one (range_with_len 0 16)
digits_are = refl

-- the two digits of a number stand at twice that number
pub byte_at : (n : ℕ) → n < 256 → piece n ≡ byte n
byte_at n h = sym (get_or-map-range_with_len piece 0 256 n n [] h (omega arith)) ∙ ap (λ t. get_or t n []) bytes_are ∙ get_or-map-range_with_len byte 0 256 n n [] h (omega arith)

pub digit_at : (n : ℕ) → n < 16 → last n ≡ hex n
digit_at n h =
    sym (get_or-map-range_with_len last 0 16 n n [] h (omega arith))
    ∙ ap (λ t. get_or t n []) digits_are
    ∙ get_or-map-range_with_len one 0 16 n n [] h (omega arith)
    ∙ sym (hex_one_digit false n h)

pub IsAscii-bytes : IsAscii BYTES.now
IsAscii-bytes = ascii_from BYTES.now refl

-- ---- a digit more

abbrev spell : ℕ → ℕ → List ℕ → List ℕ
spell k n acc = digits_onto k 16 false n acc

abbrev glyph : ℕ → ℕ
glyph n = digit_glyph false (n % 16)

abbrev either : (k n : ℕ) (acc : List ℕ) → Bool → List ℕ
either k n acc b = if b then glyph n ∷ acc else spell k (n / 16) (glyph n ∷ acc)

spell_last : (k n : ℕ) (acc : List ℕ) → n < 16 → spell (suc k) n acc ≡ glyph n ∷ acc
spell_last k n acc h = ap (either k n acc) (eq-eqb (n / 16) 0 (omega arith))

spell_next : (k n : ℕ) (acc : List ℕ) → 16 ≤ n → spell (suc k) n acc ≡ spell k (n / 16) (glyph n ∷ acc)
spell_next k n acc h = ap (either k n acc) (ne_eqb (n / 16) 0 (λ e. omega arith))

spell_append : (k n : ℕ) (acc : List ℕ) → spell k n acc ≡ spell k n [] ++ acc
spell_append zero n acc = refl
spell_append (suc k) n acc = ⊎_elim
    (λ l. spell_last k n acc l ∙ ap (λ x. x ++ acc) (sym (spell_last k n [] l)))
    (λ l. spell_next k n acc l ∙ spell_append k (n / 16) (glyph n ∷ acc) ∙ sym (append_assoc (spell k (n / 16) []) (glyph n ∷ []) acc) ∙ ap (λ x. x ++ acc) (sym (spell_next k n [] l ∙ spell_append k (n / 16) (glyph n ∷ []))))
    (cases_lt n 16)

-- the most digits do not matter where they are enough
spell_enough : (j k n : ℕ) (acc : List ℕ) → n < 16 ^ suc j → n < 16 ^ suc k → spell (suc j) n acc ≡ spell (suc k) n acc
spell_enough zero k n acc p q = spell_last zero n acc (omega arith) ∙ sym (spell_last k n acc (omega arith))
spell_enough (suc j) zero n acc p q = spell_last (suc j) n acc (omega arith) ∙ sym (spell_last zero n acc (omega arith))
spell_enough (suc j) (suc k) n acc p q = ⊎_elim
    (λ l. spell_last (suc j) n acc l ∙ sym (spell_last (suc k) n acc l))
    (λ l. spell_next (suc j) n acc l ∙ spell_enough j k (n / 16) (glyph n ∷ acc) (omega arith) (omega arith) ∙ sym (spell_next (suc k) n acc l))
    (cases_lt n 16)

hex_is : (n : ℕ) → hex n ≡ spell 64 n []
unfolding digits
hex_is n = refl

hex_step : (n : ℕ) → 16 ≤ n → n < 2 ^ 64 → hex n ≡ hex (n / 16) ++ (glyph n ∷ [])
hex_step n h small =
    hex_is n ∙ spell_next 63 n [] h ∙ spell_enough 62 63 (n / 16) (glyph n ∷ []) (omega arith) (omega arith) ∙ spell_append 64 (n / 16) (glyph n ∷ [])
    ∙ ap (λ l. l ++ (glyph n ∷ [])) (sym (hex_is (n / 16)))

-- two digits more
pub hex_byte : (n : ℕ) → 256 ≤ n → n < 2 ^ 64 → hex n ≡ hex (n / 256) ++ byte (n % 256)
hex_byte n h small =
    let front : n / 16 / 16 ≡ n / 256 = omega arith in
    let high : n / 16 % 16 ≡ n % 256 / 16 = omega arith in
    let low : n % 16 ≡ n % 256 % 16 = omega arith in
    hex_step n (omega arith) small ∙ ap (λ l. l ++ (glyph n ∷ [])) (hex_step (n / 16) (omega arith) (omega arith))
    ∙ append_assoc (hex (n / 16 / 16)) (glyph (n / 16) ∷ []) (glyph n ∷ [])
    ∙ ap (λ m. hex m ++ (glyph (n / 16) ∷ glyph n ∷ [])) front
    ∙ ap (λ d. hex (n / 256) ++ (digit_glyph false d ∷ glyph n ∷ [])) high
    ∙ ap (λ d. hex (n / 256) ++ (digit_glyph false (n % 256 / 16) ∷ digit_glyph false d ∷ [])) low

-- the number before the last byte of a number is put, and then this
pub byte_put : (next mid old two : List ℕ) (n first : ℕ) → 256 ≤ n → n < 2 ^ 64 → n / 256 ≡ first → next ≡ mid ++ two → mid ≡ old ++ hex first → two ≡ byte (n % 256) → next ≡ old ++ hex n
byte_put next mid old two n first lo hi is next_is mid_is two_is =
    two_parts next mid old (hex first) (byte (n % 256)) (hex n) (next_is ∙ ap (λ l. mid ++ l) two_is) mid_is (hex_byte n lo hi ∙ ap (λ m. hex m ++ byte (n % 256)) is)
