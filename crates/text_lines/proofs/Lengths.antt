-- Quoted bytes are short: each is shown as one.
use Rattle.std.proofs.Common.{◌≡◌, ℕ, ◌+◌, ◌<◌, ◌≤◌, Bool, true, false, List, [], ◌∷◌, length, take, refl, ap, ◌∙◌, arith, lit<, cond}
use Rattle.std.specs.Prelude.{codes, nat_le, nat_lt, min}
use Rattle.std.specs.List.{flat_map}
use Rattle.std.specs.Char.{encode_utf8}
use Rattle.std.proofs.lemmas.Bool.{leb-true}
use Rattle.std.proofs.lemmas.List.{length-append, length-take}
use Rattle.std.proofs.lemmas.Str.{encode_ascii}
use Rattle.text_lines.specs.Quotes.{shown, rest}

abbrev pub as_shown : ℕ → List ℕ
as_shown byte = encode_utf8 (shown byte)

ascii : (byte : ℕ) → shown byte < 128
ascii byte = by (nat_le 32 byte) (nat_le byte 126) refl
  where
    by : (low high : Bool) → nat_le byte 126 ≡ high → cond low (cond high byte 63) 63 < 128
    by true true h = let n = leb-true byte 126 h in omega (arith, n)
    by true false h = lit< tt
    by false high h = lit< tt

one : (byte : ℕ) → length (as_shown byte) ≡ 1
one byte = ap (λ (l : List ℕ). length l) (encode_ascii (shown byte) (ascii byte))

same_length : (bytes : List ℕ) → length (flat_map as_shown bytes) ≡ length bytes
same_length [] = refl
same_length (byte ∷ bytes) =
    let n = length-append (as_shown byte) (flat_map as_shown bytes) in
    let a = one byte in
    let m = same_length bytes in
    omega (arith, n, a, m)

module _ (bytes items text : List ℕ) (i : ℕ) (is : items ≡ take 40 bytes) (written : text ≡ flat_map as_shown (take i items)) where
  few : length text ≤ 40
  few =
      let n : length text ≡ length (take i items) = ap (λ (l : List ℕ). length l) written ∙ same_length (take i items) in
      let m : length items ≡ min 40 (length bytes) = ap (λ (l : List ℕ). length l) is ∙ length-take 40 bytes in
      let k = length-take i items in
      omega (arith, n, m, k)

  pub room_for_one : (c : ℕ) → c < 128 → length text + length (encode_utf8 c) ≤ 42
  room_for_one c ascii =
      let n : length (encode_utf8 c) ≡ 1 = ap (λ (l : List ℕ). length l) (encode_ascii c ascii) in
      let m = few in
      omega (arith, n, m)

  pub room_for_rest : (more : List ℕ) → more ≡ rest bytes → length text + length more ≤ 42
  room_for_rest more e =
      let n : length more ≤ 2 = by (nat_lt 40 (length bytes)) e in
      let m = few in
      omega (arith, n, m)
    where
      by : (long : Bool) → more ≡ cond long (codes "..") [] → length more ≤ 2
      by true h = let k : length more ≡ 2 = ap (λ (l : List ℕ). length l) h in omega (arith, k)
      by false h = let k : length more ≡ 0 = ap (λ (l : List ℕ). length l) h in omega (arith, k)
