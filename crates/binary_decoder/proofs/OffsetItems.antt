-- One instruction more, one body more, and the first section that is one of code.
use Rattle.std.proofs.Common.{◌≡◌, ℕ, suc, ◌+◌, ◌-◌, ◌<◌, ◌≤◌, List, [], ◌∷◌, ◌++◌, length, Bool, false, cond, eqb, Option, Some, None, Ok, Err, sym, ap, subst, refl, ◌∙◌, append_assoc, arith}
use Rattle.std.proofs.lemmas.Bool.{eq-eqb, ne_eqb}
use Rattle.std.proofs.lemmas.List.{append-nil, length-append}
use Rattle.binary_decoder.specs.Fault.{Fault, Reading, Malformed, Oversized, ◌>>=◌}
use Rattle.binary_decoder.specs.Language.{u32, vector, byte_vector}
use Rattle.binary_decoder.specs.Reading.{u32_at, byte_vector_at}
use Rattle.binary_decoder.specs.Grammar.{group}
use Rattle.binary_decoder.specs.Reader.{instr_at, group_at}
use Rattle.binary_decoder.specs.Moves.{Fails, FailsAs, Kind, IsRefusal, IsRefusedAt}
use Rattle.binary_decoder.specs.Passed.{IsOfBytes}
use Rattle.binary_decoder.specs.declared.fault.DecodeFault.{DecodeFault}
use Rattle.binary_decoder.specs.declared.fault.DecodeFault.TheVariants.{Refused, TooLarge, NoMemory}
use Rattle.binary_decoder.specs.Names.{with_next, whole_items, part_at}
use Rattle.binary_decoder.specs.Offsets.{offset_at, locals_of, offsets_behind, body_offsets_at, bodies_behind, section_end_at, first_code, bodies_in}
use Rattle.binary_decoder.proofs.ReadAnswers.{Found, always}
use Rattle.binary_decoder.proofs.ReadLaws.{u32_exact, vector_exact, byte_vector_exact, shrinks}
use Rattle.binary_decoder.proofs.FunctionLaws.{group_exact}
use Rattle.binary_decoder.proofs.InstrLaws.{labels_fit}
use Rattle.binary_decoder.proofs.NameItems.{malformed, more}
use Rattle.wasm_types.specs.declared.instruction.Instr.{Instr}
use Rattle.wasm_types.specs.declared.modules.LocalGroup.{LocalGroup}

-- ---- what is left is no longer

pub content_fits : (bytes content rest : List ℕ) → byte_vector_at bytes ≡ Ok (content, rest) → length content + length rest ≤ length bytes
content_fits bytes content rest e =
    let found : Found byte_vector always bytes (Ok (content, rest)) = subst (Found byte_vector always bytes) e (byte_vector_exact bytes).found in
    let l = found.2 in
    omega (arith, ap length found.1, length-append found.0 rest, ap length l.parts, length-append l.front l.back, ap length l.is_second)

pub number_shrinks : (bytes : List ℕ) (n : ℕ) (rest : List ℕ) → u32_at bytes ≡ Ok (n, rest) → length rest ≤ length bytes
number_shrinks bytes n rest e = shrinks u32 always bytes n rest (u32_at bytes) (u32_exact bytes) e

pub locals_fit : (bytes : List ℕ) (groups : List LocalGroup) (rest : List ℕ) → locals_of bytes ≡ Ok (groups, rest) → length rest ≤ length bytes
locals_fit bytes groups rest e = shrinks (vector group) _ bytes groups rest (locals_of bytes) (vector_exact group _ (group_at false 0) (group_exact false 0) bytes) e

abbrev with_offset : ℕ → (Instr × List ℕ) × List ℕ → Reading ℕ
with_offset offset i = Ok (offset, i.1)

offset_by : (end : ℕ) (bytes : List ℕ) (offset : ℕ) (rest : List ℕ) (r : Reading (Instr × List ℕ)) → instr_at [] bytes ≡ r → (r >>= with_offset (end - length bytes)) ≡ Ok (offset, rest) → length rest ≤ length bytes
offset_by end bytes offset rest (Ok i) is e =
    let k : ◌≡◌ {A = ℕ × List ℕ} (end - length bytes, i.1) (offset, rest) = cc in
    let behind : i.1 ≡ rest = ap (λ (q : ℕ × List ℕ). q.1) k in
    omega (arith, labels_fit [] bytes i.0.0 i.0.1 i.1 is, ap length behind)
offset_by end bytes offset rest (Err f) is e = absurd cc

pub offset_shrinks : (end : ℕ) (bytes : List ℕ) (offset : ℕ) (rest : List ℕ) → offset_at end bytes ≡ Ok (offset, rest) → length rest ≤ length bytes
unfolding offset_at
offset_shrinks end bytes offset rest e = offset_by end bytes offset rest (instr_at [] bytes) refl e

-- ---- a fault of the bytes

pub refused : {X : Type 0} (offset : ℕ) (e : DecodeFault) (r : Reading X) → IsRefusedAt offset e → Fails e r → r ≡ Err Malformed
refused offset e r at fails = subst (λ (k : Kind). FailsAs k r) at fails

none_by : {X : Type 0} (item : List ℕ → Reading X) (n m : ℕ) (bytes : List ℕ) (r : Reading X) → n ≡ suc m → item bytes ≡ r → whole_items item n bytes ≡ with_next r (whole_items item m)
unfolding whole_items
none_by item n m bytes r left is = ap (λ (k : ℕ). whole_items item k bytes) left ∙ ap (λ (q : Reading _). with_next q (whole_items item m)) is

module _ {X : Type 0} (item : List ℕ → Reading X) (end counter : ℕ) (bytes : List ℕ) where
  -- no item is at the front
  pub no_item : (f : Fault) → counter < end → item bytes ≡ Err f → whole_items item (end - counter) bytes ≡ []
  no_item f below is = none_by item (end - counter) (end - (counter + 1)) bytes (Err f) (omega (arith, below)) is

  pub stops : (e : DecodeFault) → counter < end → IsOfBytes e → Fails e (item bytes) → whole_items item (end - counter) bytes ≡ []
  stops (Refused offset place cause) below of_bytes fails = no_item Malformed below fails
  stops (TooLarge limit count place) below of_bytes fails = no_item Oversized below fails
  stops NoMemory below of_bytes fails = absurd of_bytes

-- ---- items behind those in front

module _ {X : Type 0} (item : List ℕ → Reading X) (end counter : ℕ) (bytes : List ℕ) (front total : List X) (so_far : front ++ whole_items item (end - counter) bytes ≡ total) where
  pub all_read : whole_items item (end - counter) bytes ≡ [] → front ≡ total
  all_read none = sym (append-nil front) ∙ sym (ap (λ (items : List X). front ++ items) none) ∙ so_far

  pub one_more : (x : X) (rest : List ℕ) → counter < end → item bytes ≡ Ok (x, rest) → (front ++ x ∷ []) ++ whole_items item (end - (counter + 1)) rest ≡ total
  one_more x rest below is =
      append_assoc front (x ∷ []) (whole_items item (end - (counter + 1)) rest)
      ∙ sym (ap (λ (items : List X). front ++ items) (more item end counter bytes x rest below is))
      ∙ so_far

-- ---- bodies

pub body_read : (end : ℕ) (bytes content rest : List ℕ) → byte_vector_at bytes ≡ Ok (content, rest) → body_offsets_at end bytes ≡ Ok (offsets_behind (end - length rest) (locals_of content), rest)
unfolding body_offsets_at
body_read end bytes content rest e = rw e refl

pub body_unread : (end : ℕ) (bytes : List ℕ) → byte_vector_at bytes ≡ Err Malformed → body_offsets_at end bytes ≡ Err Malformed
unfolding body_offsets_at
body_unread end bytes e = rw e refl

-- a content of which the locals are damaged has no offsets
pub no_offsets : (end : ℕ) (e : DecodeFault) (r : Reading (List LocalGroup)) → IsOfBytes e → Fails e r → offsets_behind end r ≡ []
no_offsets end (Refused offset place cause) r of_bytes fails = ap (offsets_behind end) fails
no_offsets end (TooLarge limit count place) r of_bytes fails = ap (offsets_behind end) fails
no_offsets end NoMemory r of_bytes fails = absurd of_bytes

pub bodies_are : (found : Option (List ℕ × ℕ)) (content rest : List ℕ) (end count : ℕ) → Some (content, end) ≡ found → u32_at content ≡ Ok (count, rest) → whole_items (body_offsets_at end) count rest ≡ bodies_in found
bodies_are found content rest end count is number = sym (ap (bodies_behind end) number) ∙ ap bodies_in is

-- ---- the first section of code

section_read : (size : ℕ) (bytes : List ℕ) (p : ℕ × List ℕ) (rest : List ℕ) → part_at bytes ≡ Ok (p, rest) → section_end_at size bytes ≡ Ok ((p, size - length rest), rest)
unfolding section_end_at
section_read size bytes p rest e = rw e refl

section_unread : (size : ℕ) (bytes : List ℕ) → part_at bytes ≡ Err Malformed → section_end_at size bytes ≡ Err Malformed
unfolding section_end_at
section_unread size bytes e = rw e refl

abbrev with_id : ℕ → List ℕ × List ℕ → Reading (ℕ × List ℕ)
with_id b y = Ok ((b, y.0), y.1)

part_by : (b : ℕ) (bs : List ℕ) (p : ℕ × List ℕ) (rest : List ℕ) (r : Reading (List ℕ)) → byte_vector_at bs ≡ r → (r >>= with_id b) ≡ Ok (p, rest) → length p.1 + length rest ≤ length (b ∷ bs)
part_by b bs p rest (Ok y) is e =
    let k : ◌≡◌ {A = (ℕ × List ℕ) × List ℕ} ((b, y.0), y.1) (p, rest) = cc in
    let same : y.0 ≡ p.1 = ap (λ (q : (ℕ × List ℕ) × List ℕ). q.0.1) k in
    let left : y.1 ≡ rest = ap (λ (q : (ℕ × List ℕ) × List ℕ). q.1) k in
    omega (arith, content_fits bs y.0 y.1 is, ap length same, ap length left)
part_by b bs p rest (Err f) is e = absurd cc

pub part_fits : (bytes : List ℕ) (p : ℕ × List ℕ) (rest : List ℕ) → part_at bytes ≡ Ok (p, rest) → length p.1 + length rest ≤ length bytes
unfolding part_at
part_fits [] p rest e = absurd cc
part_fits (b ∷ bs) p rest e = part_by b bs p rest (byte_vector_at bs) refl e

module _ (size end counter : ℕ) (bytes : List ℕ) (total : Option (List ℕ × ℕ)) (so_far : first_code (whole_items (section_end_at size) (end - counter) bytes) ≡ total) where
  pub no_code : whole_items (section_end_at size) (end - counter) bytes ≡ [] → None ≡ total
  no_code none = sym (ap first_code none) ∙ so_far

  pub no_section : (e : DecodeFault) → counter < end → IsRefusal e → Fails e (part_at bytes) → None ≡ total
  no_section e below refusal fails = no_code (no_item (section_end_at size) end counter bytes Malformed below (section_unread size bytes (malformed e (part_at bytes) refusal fails)))

  next_section : (p : ℕ × List ℕ) (rest : List ℕ) → counter < end → part_at bytes ≡ Ok (p, rest)
      → cond (eqb p.0 10) (Some (p.1, size - length rest)) (first_code (whole_items (section_end_at size) (end - (counter + 1)) rest)) ≡ total
  next_section p rest below is =
      sym (ap first_code (more (section_end_at size) end counter bytes (p, size - length rest) rest below (section_read size bytes p rest is))) ∙ so_far

  pub code_found : (p : ℕ × List ℕ) (rest : List ℕ) → counter < end → part_at bytes ≡ Ok (p, rest) → p.0 ≡ 10 → Some (p.1, size - length rest) ≡ total
  code_found p rest below is code = sym (ap (λ (t : Bool). cond t (Some (p.1, size - length rest)) (first_code (whole_items (section_end_at size) (end - (counter + 1)) rest))) (eq-eqb p.0 10 code)) ∙ next_section p rest below is

  pub other_section : (p : ℕ × List ℕ) (rest : List ℕ) → counter < end → part_at bytes ≡ Ok (p, rest) → (p.0 ≡ 10 → ⊥) → first_code (whole_items (section_end_at size) (end - (counter + 1)) rest) ≡ total
  other_section p rest below is other = sym (ap (λ (t : Bool). cond t (Some (p.1, size - length rest)) (first_code (whole_items (section_end_at size) (end - (counter + 1)) rest))) (ne_eqb p.0 10 other)) ∙ next_section p rest below is
