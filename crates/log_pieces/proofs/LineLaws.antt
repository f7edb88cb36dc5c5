-- Lines of pieces: the digits of bytes, the bytes of digits, and that no line begins another.
use Rattle.std.proofs.Common.{◌≡◌, ℕ, zero, suc, ◌+◌, ◌*◌, ◌/◌, ◌%◌, ◌<◌, Bool, true, false, ◌&&◌, ◌||◌, not, List, [], ◌∷◌, ◌++◌, slice_index, inl, inr, Option, Some, None, Result, Ok, Err, refl, sym, ap, ◌∙◌, arith}
use Rattle.std.specs.Prelude.{IfOk, nat_lt, nat_le, ◌==◌, ◌≢◌, ◌⊎◌}
use Rattle.std.specs.List.{All, list_all, AllPass}
use Rattle.std.proofs.lemmas.List.Elements.{All-nil, All-cons}
use Rattle.std.proofs.lemmas.List.Sums.{AllPass-from_list_all}
use Rattle.std.proofs.lemmas.Bool.{and_parts, cases_eq, ltb-true, leb-true, eqb-true}
use Rattle.std.proofs.lemmas.List.{append-nil, append_cancel_right}
use Rattle.hex.specs.Hex.{IsBytes, encode_lower, encode_with, lower_digits, hex_digit_value, decode_of, decode_pairs, pair_value}
use Rattle.hex.specs.declared.error.FromHexError.{FromHexError}
use Rattle.hex.proofs.Pairs.{cons_byte, decode_pairs-ok_pair}
use Rattle.hex.proofs.HexLemmas.{decode_of-even, decode_of-ok, decode_of-encode_lower, decode_of-same}
use Rattle.log_pieces.specs.declared.fault.DecodeFault.{DecodeFault}
use Rattle.log_pieces.specs.Piece.{PieceValue}
use Rattle.log_pieces.specs.Spelling.{spelling, Spells}
use Rattle.log_pieces.specs.Line.{line_of, IsLineOf, EndsOnce, is_lower_digit}
use Rattle.log_pieces.proofs.Pieces.{spelling_bytes, spelled_once}

-- ---- digits

abbrev all_below : (ℕ → Bool) → ℕ → Bool
all_below test zero = true
all_below test (suc n) = test n && all_below test n

passes_below : (test : ℕ → Bool) (n : ℕ) → all_below test n ≡ true → (k : ℕ) → k < n → test k ≡ true
passes_below test zero e k lt = absurd (omega arith)
passes_below test (suc n) e k lt =
    let parts = and_parts (test n) (all_below test n) e in
    elim (cases_eq k n) [
      | inl same ↦ ap test same ∙ parts.0
      | inr other ↦ passes_below test n parts.1 k (omega arith)
    ]

-- the digit stands in the table at its value
abbrev stands : Option ℕ → ℕ → Bool
stands None digit = false
stands (Some value) digit = nat_lt value 16 && slice_index lower_digits value == digit

abbrev is_low_or_stands : ℕ → Bool
is_low_or_stands digit = not (is_lower_digit digit) || stands (hex_digit_value digit) digit

every_digit : all_below is_low_or_stands 103 ≡ true
every_digit = refl

either_true : (s t : Bool) → (s || t) ≡ true → (s ≡ true) ⊎ (t ≡ true)
either_true true t e = inl refl
either_true false t e = inr e

lower_below : (digit : ℕ) → is_lower_digit digit ≡ true → digit < 103
lower_below digit e =
    elim (either_true (nat_le 48 digit && nat_le digit 57) (nat_le 97 digit && nat_le digit 102) e) [
      | inl number ↦ omega (arith, leb-true digit 57 (and_parts _ _ number).1)
      | inr letter ↦ omega (arith, leb-true digit 102 (and_parts _ _ letter).1)
    ]

-- a lower-case digit, with its value
pub record Digit (digit : ℕ) : Type 0 where
  pub value : ℕ
  pub is : hex_digit_value digit ≡ Some value
  pub below : value < 16
  pub stands : slice_index lower_digits value ≡ digit

pub digit_of : (digit : ℕ) → is_lower_digit digit ≡ true → Digit digit
digit_of digit e = cases (is_lower_digit digit) (hex_digit_value digit) e refl (passes_below is_low_or_stands 103 every_digit digit (lower_below digit e)) where
  cases : (lower : Bool) (value : Option ℕ) → lower ≡ true → hex_digit_value digit ≡ value → (not lower || stands value digit) ≡ true → Digit digit
  cases false value e f g = absurd (cc e)
  cases true None e f g = absurd (cc g)
  cases true (Some value) e f g =
      let parts = and_parts (nat_lt value 16) (slice_index lower_digits value == digit) g in
      record { value = value; is = f; below = ltb-true _ _ parts.0; stands = eqb-true _ _ parts.1 }

digits_stand : AllPass is_lower_digit lower_digits
digits_stand = AllPass-from_list_all is_lower_digit lower_digits refl

-- ---- digits and bytes

-- the digits of bytes are in lower case
pub encode_lower-lower : (bytes : List ℕ) → IsBytes bytes → list_all is_lower_digit (encode_lower bytes) ≡ true
unfolding encode_with
encode_lower-lower [] h = refl
encode_lower-lower (byte ∷ bytes) h =
    let high = digits_stand (byte / 16) 0 (omega (arith, h 0)) in
    let low = digits_stand (byte % 16) 0 (omega arith) in
    rw (high, low) (encode_lower-lower bytes (λ i. h (suc i)))

abbrev read : List ℕ → Result (List ℕ) FromHexError
read bytes = Ok bytes

read_is : (x y : List ℕ) → read x ≡ read y → x ≡ y
read_is x y e = cc

one_byte : (byte : ℕ) (r : Result (List ℕ) FromHexError) (bytes : List ℕ) → cons_byte byte r ≡ Ok bytes → (rest : List ℕ) × (r ≡ Ok rest) × (bytes ≡ byte ∷ rest)
one_byte byte (Ok rest) bytes e = (rest, refl, cc)
one_byte byte (Err error) bytes e = absurd (cc e)

-- digits in lower case are the digits of their bytes
lower_pairs : (i : ℕ) (digits bytes : List ℕ) → list_all is_lower_digit digits ≡ true → decode_pairs i digits ≡ Ok bytes → digits ≡ encode_lower bytes
unfolding encode_with decode_pairs
lower_pairs i [] bytes lower e = ap encode_lower (read_is [] bytes e)
lower_pairs i (digit ∷ []) bytes lower e = absurd (cc e)
lower_pairs i (high ∷ low ∷ rest) bytes lower e =
    let both = and_parts (is_lower_digit high) (list_all is_lower_digit (low ∷ rest)) lower in
    let two = and_parts (is_lower_digit low) (list_all is_lower_digit rest) both.1 in
    let h = digit_of high both.0 in
    let l = digit_of low two.0 in
    let byte : ℕ = h.value * 16 + l.value in
    let pair : pair_value high low i ≡ Ok byte = rw (h.is, l.is) refl in
    let later = one_byte byte (decode_pairs (i + 2) rest) bytes (sym (decode_pairs-ok_pair i high low byte rest pair) ∙ e) in
    let front : byte / 16 ≡ h.value = omega (arith, l.below) in
    let back : byte % 16 ≡ l.value = omega (arith, l.below) in
    let digits : high ∷ low ∷ rest ≡ encode_lower (byte ∷ later.0) = rw (front, back, h.stands, l.stands) (ap (λ (ds : List ℕ). high ∷ low ∷ ds) (lower_pairs (i + 2) rest later.0 two.1 later.1)) in
    rw later.2 digits

pub lower_is : (digits bytes : List ℕ) → list_all is_lower_digit digits ≡ true → decode_of digits ≡ Ok bytes → digits ≡ encode_lower bytes
lower_is digits bytes lower e = lower_pairs 0 digits bytes lower (sym (decode_of-even digits (decode_of-ok digits bytes e).0) ∙ e)

-- ---- lines

pub spells : {line : List ℕ} {p : PieceValue} → IsLineOf line p → Spells (spelling p) p
spells l = record { rules = l.rules; fits = l.fits; spelled = refl }

no_end : (digits : List ℕ) → list_all is_lower_digit (10 ∷ digits) ≡ true → ⊥
no_end digits e = absurd cc

-- the digits before the first line end are all there are
first_end : (a b rest : List ℕ) → list_all is_lower_digit a ≡ true → list_all is_lower_digit b ≡ true → (a ++ 10 ∷ []) ++ rest ≡ b ++ 10 ∷ [] → (a ≡ b) × (rest ≡ [])
first_end [] [] rest f g e = (refl, cc)
first_end [] (y ∷ b) rest f g e =
    let end : y ≡ 10 = cc in
    absurd (no_end b (rw end at g))
first_end (x ∷ a) [] rest f g e =
    let end : x ≡ 10 = cc in
    absurd (no_end a (rw end at f))
first_end (x ∷ a) (y ∷ b) rest f g e =
    let same : x ≡ y = cc in
    let later : (a ++ 10 ∷ []) ++ rest ≡ b ++ 10 ∷ [] = cc in
    let f' = and_parts (is_lower_digit x) (list_all is_lower_digit a) f in
    let g' = and_parts (is_lower_digit y) (list_all is_lower_digit b) g in
    let r = first_end a b rest f'.1 g'.1 later in
    let digits : a ≡ b = r.0 in
    (cc, r.1)

no_line_end : (digits : List ℕ) → list_all is_lower_digit digits ≡ true → All (λ byte. byte ≢ 10) digits
no_line_end [] e = All-nil (λ byte. byte ≢ 10)
no_line_end (digit ∷ digits) e =
    let both = and_parts (is_lower_digit digit) (list_all is_lower_digit digits) e in
    All-cons (λ byte. byte ≢ 10) digit digits (λ end. no_end digits (rw end at e)) (no_line_end digits both.1)

pub digits_lower : {line : List ℕ} {p : PieceValue} → IsLineOf line p → list_all is_lower_digit (encode_lower (spelling p)) ≡ true
digits_lower {line} {p} l = encode_lower-lower (spelling p) (spelling_bytes (spells l)).below

-- a line holds no line end but its last byte
pub ends_once : (p : PieceValue) (line : List ℕ) → IsLineOf line p → EndsOnce line
ends_once p line l = record { digits = encode_lower (spelling p); ended = l.written; none_before = no_line_end (encode_lower (spelling p)) (digits_lower l) }

-- no line begins another, and no two pieces have the same
pub lined_once : (p q : PieceValue) (line rest : List ℕ) → IsLineOf line p → IsLineOf (line ++ rest) q → (p ≡ q) × (rest ≡ [])
lined_once p q line rest l m =
    let one : line_of p ++ rest ≡ line_of q = ap (λ (bytes : List ℕ). bytes ++ rest) (sym l.written) ∙ m.written in
    let both = first_end (encode_lower (spelling p)) (encode_lower (spelling q)) rest (digits_lower l) (digits_lower m) one in
    let read_p = decode_of-encode_lower (spelling p) (spelling_bytes (spells l)).below in
    let read_q = decode_of-encode_lower (spelling q) (spelling_bytes (spells m)).below in
    let same : spelling p ≡ spelling q = decode_of-same (encode_lower (spelling p)) (spelling p) (spelling q) read_p (ap decode_of both.0 ∙ read_q) in
    let t : Spells (spelling p ++ []) q = record { rules = m.rules; fits = m.fits; spelled = append-nil (spelling p) ∙ same } in
    ((spelled_once p q (spelling p) [] (spells l) t).0, both.1)

-- ---- reading a line

-- what stands before the line end of a line are its digits
digits_are : (line digits : List ℕ) (p : PieceValue) → line ≡ digits ++ 10 ∷ [] → IsLineOf line p → digits ≡ encode_lower (spelling p)
digits_are line digits p e l = append_cancel_right digits (encode_lower (spelling p)) (10 ∷ []) (sym e ∙ l.written)

line_read : (line digits bytes : List ℕ) (p : PieceValue) → line ≡ digits ++ 10 ∷ [] → list_all is_lower_digit digits ≡ true → decode_of digits ≡ Ok bytes → Spells bytes p → IsLineOf line p
line_read line digits bytes p e lower d s =
    record { rules = s.rules; fits = s.fits; written = e ∙ ap (λ (ds : List ℕ). ds ++ 10 ∷ []) (lower_is digits bytes lower d ∙ ap encode_lower s.spelled) }

pub line_is_read : (line digits bytes : List ℕ) (r : Result PieceValue DecodeFault) → line ≡ digits ++ 10 ∷ [] → list_all is_lower_digit digits ≡ true → decode_of digits ≡ Ok bytes
    → IfOk r (Spells bytes) → IfOk r (IsLineOf line)
line_is_read line digits bytes (Ok p) e lower d s = line_read line digits bytes p e lower d s
line_is_read line digits bytes (Err fault) e lower d s = tt

-- no line has other digits
pub no_line : (line digits : List ℕ) → line ≡ digits ++ 10 ∷ [] → list_all is_lower_digit digits ≡ false → (p : PieceValue) → IsLineOf line p → ⊥
no_line line digits e other p l =
    let lower = ap (list_all is_lower_digit) (digits_are line digits p e l) ∙ digits_lower l in
    absurd (cc (sym other ∙ lower))

-- the digits of a line are those of bytes
line_bytes : (line digits : List ℕ) (p : PieceValue) → line ≡ digits ++ 10 ∷ [] → IsLineOf line p → decode_of digits ≡ Ok (spelling p)
line_bytes line digits p e l = ap decode_of (digits_are line digits p e l) ∙ decode_of-encode_lower (spelling p) (spelling_bytes (spells l)).below

pub no_bytes : (line digits : List ℕ) (error : FromHexError) → line ≡ digits ++ 10 ∷ [] → decode_of digits ≡ Err error → (p : PieceValue) → IsLineOf line p → ⊥
no_bytes line digits error e d p l = absurd (cc (sym d ∙ line_bytes line digits p e l))

-- no piece has these bytes
pub no_spelling : (line digits bytes : List ℕ) → line ≡ digits ++ 10 ∷ [] → decode_of digits ≡ Ok bytes → ((p : PieceValue) → Spells bytes p → ⊥) → (p : PieceValue) → IsLineOf line p → ⊥
no_spelling line digits bytes e d none p l =
    none p (record { rules = l.rules; fits = l.fits; spelled = decode_of-same digits bytes (spelling p) d (line_bytes line digits p e l) })
