-- The first part of bytes, and what is behind it.
use Rattle.std.proofs.Common.{◌≡◌, ℕ, ◌+◌, ◌<◌, false, List, [], ◌∷◌, ◌++◌, length, take, drop, sym, ap, ◌∙◌, arith, add-one}
use Rattle.std.specs.Prelude.{slice_index, ◌==◌, Some, None}
use Rattle.std.proofs.Math.Seq.{drop-cons}
use Rattle.std.proofs.lemmas.Bool.{false_from_ne_true}
use Rattle.std.proofs.lemmas.List.{take-append-drop, get_or-take, length-take-le}
use Rattle.std.proofs.lemmas.List.Elements.{All-from_get_or}
use Rattle.std.proofs.lemmas.List.Splits.{slice_split_none, slice_split_at}
use Rattle.memchr.specs.Find.{IsFirstByte, is_byte}
use Rattle.text_lines.specs.Parts.{parts}

parted : (bytes : List ℕ) (at : ℕ) → at < length bytes → bytes ≡ take at bytes ++ slice_index bytes at ∷ drop (at + 1) bytes
parted bytes at lt = sym (take-append-drop at bytes) ∙ ap (λ l. take at bytes ++ l) (drop-cons bytes at 0 lt ∙ ap (λ n. slice_index bytes at ∷ drop n bytes) (sym (add-one at)))

pub parts_none : (c : ℕ) (bytes : List ℕ) → IsFirstByte (is_byte c) bytes None → parts c bytes ≡ bytes ∷ []
parts_none c bytes none = slice_split_none (λ b. b == c) bytes (All-from_get_or (λ b. (b == c) ≡ false) bytes 0 (λ k lt. false_from_ne_true _ (none k (omega arith) lt)))

pub parts_at : (c : ℕ) (bytes : List ℕ) (at : ℕ) → IsFirstByte (is_byte c) bytes (Some at) → parts c bytes ≡ take at bytes ∷ parts c (drop (at + 1) bytes)
parts_at c bytes at first =
    ap (parts c) (parted bytes at first.0.high)
    ∙ slice_split_at (λ b. b == c) (take at bytes) (slice_index bytes at) (drop (at + 1) bytes) (All-from_get_or (λ b. (b == c) ≡ false) (take at bytes) 0 (λ k lt. before k (let n = length-take-le at bytes (omega (arith, first.0.high)) in omega arith))) first.1
  where
    before : (k : ℕ) → k < at → (slice_index (take at bytes) k == c) ≡ false
    before k below = false_from_ne_true _ (λ e. first.0.before k (omega arith) below (ap (λ b. b == c) (sym (get_or-take at bytes k 0 below)) ∙ e))
