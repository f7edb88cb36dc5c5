-- A number in LEB128 at the front, by the relation of the standard and by its reader.
use Rattle.std.proofs.Common.{◌≡◌, ℕ, ◌+◌, ◌-◌, ◌≤◌, List, ◌++◌, length, take, drop, Option, Some, None, refl, sym, ap, subst, ◌∙◌, arith}
use Rattle.std.specs.Prelude.{ℤ, slice_range, Ok, Err}
use Rattle.std.proofs.lemmas.List.{take-append-drop, length-append, take_at}
use Rattle.wasm_types.specs.Leb128.{unsigned, signed}
use Rattle.wasm_types.specs.Leb128Reading.{unsigned_at, signed_at}
use Rattle.wasm_types.proofs.Leb128Laws.{unsigned_found, unsigned_only, signed_found, signed_only}
use Rattle.binary_decoder.specs.Fault.{Malformed}
use Rattle.binary_decoder.specs.Reading.{or_malformed}

module _ {N : Type 0} (spells : N → List ℕ → Type 0) (read : List ℕ → Option (N × List ℕ))
    (found : (bytes : List ℕ) (n : N) (rest : List ℕ) → read bytes ≡ Some (n, rest) → (text : List ℕ) × (bytes ≡ text ++ rest) × spells n text)
    (only : (n : N) (text rest : List ℕ) → spells n text → read (text ++ rest) ≡ Some (n, rest)) where
  -- a number that ends at a place was read up to it
  front_read : (bytes : List ℕ) (n : N) (end : ℕ) → spells n (slice_range bytes 0 end) → or_malformed (read bytes) ≡ Ok (n, drop end bytes)
  front_read bytes n end l =
      let k : end - 0 ≡ end = omega arith in
      let k2 : read (take (end - 0) bytes ++ drop (end - 0) bytes) ≡ Some (n, drop (end - 0) bytes) = only n (take (end - 0) bytes) (drop (end - 0) bytes) l in
      let same : read bytes ≡ Some (n, drop (end - 0) bytes) = ap read (sym (take-append-drop (end - 0) bytes)) ∙ k2 in
      ap or_malformed same ∙ ap (λ (m : ℕ). Ok (n, drop m bytes)) k

  none_by : (bytes : List ℕ) (o : Option (N × List ℕ)) → read bytes ≡ o → ((n : N) (end : ℕ) → 0 ≤ end → end ≤ length bytes → spells n (slice_range bytes 0 end) → ⊥) → or_malformed o ≡ Err Malformed
  none_by bytes None e none = refl
  none_by bytes (Some p) e none =
      let g = found bytes p.0 p.1 e in
      let len : length bytes ≡ length g.0 + length p.1 = ap length g.1 ∙ length-append g.0 p.1 in
      let k : length g.0 - 0 ≡ length g.0 = omega arith in
      let same : take (length g.0 - 0) bytes ≡ g.0 = ap (λ (m : ℕ). take m bytes) k ∙ ap (take (length g.0)) g.1 ∙ take_at g.0 p.1 (length g.0) refl in
      absurd (none p.0 (length g.0) (omega arith) (omega arith) (subst (spells p.0) (sym same) g.2))

  -- where no number stands at the front, none is read
  none_read : (bytes : List ℕ) → ((n : N) (end : ℕ) → 0 ≤ end → end ≤ length bytes → spells n (slice_range bytes 0 end) → ⊥) → or_malformed (read bytes) ≡ Err Malformed
  none_read bytes none = none_by bytes (read bytes) refl none

pub unsigned_read : (bits : ℕ) (bytes : List ℕ) (n end : ℕ) → unsigned bits n (slice_range bytes 0 end) → or_malformed (unsigned_at bits bytes) ≡ Ok (n, drop end bytes)
unsigned_read bits = front_read (unsigned bits) (unsigned_at bits) (unsigned_found bits) (unsigned_only bits)

pub unsigned_unread : (bits : ℕ) (bytes : List ℕ) → ((n end : ℕ) → 0 ≤ end → end ≤ length bytes → unsigned bits n (slice_range bytes 0 end) → ⊥) → or_malformed (unsigned_at bits bytes) ≡ Err Malformed
unsigned_unread bits = none_read (unsigned bits) (unsigned_at bits) (unsigned_found bits) (unsigned_only bits)

pub signed_read : (bits : ℕ) (bytes : List ℕ) (z : ℤ) (end : ℕ) → signed bits z (slice_range bytes 0 end) → or_malformed (signed_at bits bytes) ≡ Ok (z, drop end bytes)
signed_read bits = front_read (signed bits) (signed_at bits) (signed_found bits) (signed_only bits)

pub signed_unread : (bits : ℕ) (bytes : List ℕ) → ((z : ℤ) (end : ℕ) → 0 ≤ end → end ≤ length bytes → signed bits z (slice_range bytes 0 end) → ⊥) → or_malformed (signed_at bits bytes) ≡ Err Malformed
signed_unread bits = none_read (signed bits) (signed_at bits) (signed_found bits) (signed_only bits)
