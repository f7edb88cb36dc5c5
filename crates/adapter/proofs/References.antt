-- Offsets that references name, and the instructions that stand there.
use Rattle.std.proofs.Common.{◌≡◌, ℕ, ◌+◌, ◌<◌, ◌^◌, List, ◌∷◌, ◌++◌, drop, Option, Some, None, length, true, false, inl, inr, eqb, sym, ap, ◌∙◌, subst, slice_get, eq-or-lt_of_le}
use Rattle.std.specs.Prelude.{◌≢◌, ◌⊎◌, pos, ◌+ℤ◌, unsigned_abs}
use Rattle.std.specs.Char.{encode_utf8}
use Rattle.std.specs.Int.{w64, FitsUnsigned}
use Rattle.std.specs.Option.{option_eq}
use Rattle.std.specs.Str.Pattern.{FindsCharPrefix, StripsPrefix}
use Rattle.std.proofs.lemmas.Str.{encode_ascii}
use Rattle.std.specs.Str.Parse.{IsNumeral, digits_value, without_leading_plus}
use Rattle.std.proofs.lemmas.Bool.Decides.{nat_tests}
use Rattle.std.proofs.Common.{arith}
use Rattle.wasm_types.specs.declared.modules.Body.{Body}
use Rattle.wasm_types.specs.declared.modules.Module.{Module}
use Rattle.wasm_world.specs.CodePlace.{CodePlace}
use Rattle.adapter_messages.specs.declared.request.InstructionBreakpoint.{InstructionBreakpoint}
use Rattle.debugger.specs.Functions.{body_has}
use Rattle.adapter.specs.Code.{offset_at}
use Rattle.adapter.specs.InstructionBreaks.{FindsIn, IsMeant, IsNamed, NamesSo, StandsAt, count_of_body, instruction_count}

-- ---- beginnings of texts

pub behind_letter : (c : ℕ) → c < 128 → (text : List ℕ) → ((rest : List ℕ) → text ≢ encode_utf8 c ++ rest) → (rest : List ℕ) → text ≢ c ∷ rest
behind_letter c ascii text none rest is = none rest (is ∙ ap (λ (l : List ℕ). l ++ rest) (sym (encode_ascii c ascii)))

pub stripped : (c : ℕ) → c < 128 → (text x : List ℕ) → StripsPrefix (FindsCharPrefix c) text x → text ≡ c ∷ x
stripped c ascii text x h = h.1.split ∙ ap (λ (l : List ℕ). l ++ drop h.0 text) (encode_ascii c ascii) ∙ ap (λ (l : List ℕ). c ∷ l) (sym h.2)

-- ---- what a text names

pub no_zero : (text : List ℕ) → ((rest : List ℕ) → text ≢ 48 ∷ rest) → NamesSo text None
no_zero text none n h = none (120 ∷ h.digits) h.is

behind_zero : (rest digits : List ℕ) → 48 ∷ rest ≡ 48 ∷ digits → rest ≡ digits
behind_zero rest digits h = cc

pub no_x : (text rest : List ℕ) → text ≡ 48 ∷ rest → ((digits : List ℕ) → rest ≢ 120 ∷ digits) → NamesSo text None
no_x text rest is none n h = none h.digits (behind_zero rest (120 ∷ h.digits) (sym is ∙ h.is))

behind_both : (xs ys : List ℕ) → 48 ∷ 120 ∷ xs ≡ 48 ∷ 120 ∷ ys → xs ≡ ys
behind_both xs ys h = cc

abbrev pub IsNumber : List ℕ → Type 0
IsNumber digits = IsNumeral 16 (without_leading_plus digits) × (digits_value 16 (without_leading_plus digits) < 2 ^ 64)

pub no_number : (text rest digits : List ℕ) → text ≡ 48 ∷ rest → rest ≡ 120 ∷ digits → (IsNumber digits → ⊥) → NamesSo text None
no_number text rest digits is behind none n h =
    let same : h.digits ≡ digits = behind_both h.digits digits (sym h.is ∙ is ∙ ap (λ l. 48 ∷ l) behind) in
    none (subst IsNumber same (h.numeral, subst (λ v. v < 2 ^ 64) (sym h.value) h.fits))

pub names_number : (text rest digits : List ℕ) (n : ℕ) → text ≡ 48 ∷ rest → rest ≡ 120 ∷ digits → IsNumber digits → n ≡ digits_value 16 (without_leading_plus digits) → NamesSo text (Some n)
names_number text rest digits n is behind number value = record {
  digits = digits;
  is = is ∙ ap (λ l. 48 ∷ l) behind;
  numeral = number.0;
  value = sym value;
  fits = subst (λ v. v < 2 ^ 64) (sym value) number.1;
}

named_once : (text : List ℕ) (m n : ℕ) → IsNamed text m → IsNamed text n → m ≡ n
named_once text m n g h =
    let same : g.digits ≡ h.digits = behind_both g.digits h.digits (sym g.is ∙ h.is) in
    sym g.value ∙ ap (λ ds. digits_value 16 (without_leading_plus ds)) same ∙ h.value

-- ---- which instruction is meant

pub none_named : (m : Module) (b : InstructionBreakpoint) → NamesSo b.reference None → (p : CodePlace) → IsMeant m b p → ⊥
none_named m b none p h = none h.named h.is_named

pub none_fits : (m : Module) (b : InstructionBreakpoint) (n : ℕ) → IsNamed b.reference n → (FitsUnsigned w64 (pos n +ℤ b.offset) → ⊥) → (p : CodePlace) → IsMeant m b p → ⊥
none_fits m b n named none p h = none (subst (λ k. FitsUnsigned w64 (pos k +ℤ b.offset)) (named_once b.reference h.named n h.is_named named) h.fits)

pub none_stands : (m : Module) (b : InstructionBreakpoint) (n offset : ℕ) → IsNamed b.reference n → offset ≡ unsigned_abs (pos n +ℤ b.offset) → ((p : CodePlace) → StandsAt m offset p → ⊥) → (p : CodePlace) → IsMeant m b p → ⊥
none_stands m b n offset named is none p h =
    none p (subst (λ o. StandsAt m o p) (ap (λ k. unsigned_abs (pos k +ℤ b.offset)) (named_once b.reference h.named n h.is_named named) ∙ sym is) h.stands)

pub meant_of : (m : Module) (b : InstructionBreakpoint) (n offset : ℕ) (p : CodePlace) → IsNamed b.reference n → FitsUnsigned w64 (pos n +ℤ b.offset) → offset ≡ unsigned_abs (pos n +ℤ b.offset) → StandsAt m offset p → IsMeant m b p
meant_of m b n offset p named fits is stands = record { named = n; is_named = named; fits = fits; stands = subst (λ o. StandsAt m o p) is stands }

-- ---- which instruction stands at an offset

has_below : (o : Option Body) (n : ℕ) → body_has o n ≡ true → n < count_of_body o
has_below None n h = absurd (cc)
has_below (Some b) n h = grind (arith, nat_tests)

below_has : (o : Option Body) (n : ℕ) → n < count_of_body o → body_has o n ≡ true
below_has None n h = absurd (omega arith)
below_has (Some b) n h = grind (arith, nat_tests)

-- none of a function stands there
abbrev pub NoneIn : Module → (offset function : ℕ) → Type 0
NoneIn m offset function = (p : CodePlace) → p.function ≡ function → StandsAt m offset p → ⊥

pub none_in : (m : Module) (source : List ℕ) (function offset : ℕ) → source ≡ m.source → FindsIn source function (instruction_count m function) offset None → NoneIn m offset function
none_in m source function offset is none p e stands =
    none p.instruction
    (subst (λ f. p.instruction < instruction_count m f) e (has_below (slice_get m.bodies p.function) p.instruction stands.there))
    stands.few
    (ap (λ s. offset_at s (record { function = function; instruction = p.instruction })) is ∙ ap (λ f. offset_at m.source (record { function = f; instruction = p.instruction })) (sym e) ∙ stands.is)

pub stands_in : (m : Module) (source : List ℕ) (function offset : ℕ) (p : CodePlace) → source ≡ m.source → function < length m.functions → FindsIn source function (instruction_count m function) offset (Some p) → StandsAt m offset p
stands_in m source function offset p is below found = record {
  function = subst (λ f. f < length m.functions) (sym found.0) below;
  few = found.2;
  there = below_has (slice_get m.bodies p.function) p.instruction (subst (λ f. p.instruction < instruction_count m f) (sym found.0) found.1);
  is = ap (λ s. offset_at s p) (sym is) ∙ found.3;
}

-- ---- searches

pub below_or_at : (n m : ℕ) → n < m + 1 → (n < m) ⊎ (n ≡ m)
below_or_at n m h = elim (eq-or-lt_of_le (omega (arith, h))) [ inl same ↦ inr same | inr less ↦ inl less ]

pub differs : (o : Option ℕ) (x : ℕ) → option_eq eqb o (Some x) ≡ false → o ≡ Some x → ⊥
differs o x h is = absurd (grind (arith, nat_tests))
