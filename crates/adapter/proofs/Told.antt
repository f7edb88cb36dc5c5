-- Instructions that are told.
use Rattle.std.proofs.Common.{◌≡◌, ◌∙◌, ℕ, ◌+◌, ◌<◌, ◌^◌, Bool, true, false, List, [], ◌∷◌, ◌++◌, Some, None, refl, sym, ap, arith, slice_get}
use Rattle.std.specs.Prelude.{ℤ, pos, negsuc, ◌+ℤ◌, unsigned_abs, nat_lt, if◌then◌else◌}
use Rattle.std.specs.Int.{w64, FitsUnsigned}
use Rattle.std.proofs.lemmas.Int.{ints}
use Rattle.std.proofs.lemmas.List.FromFn.{map-range_with_len_more}
use Rattle.std.proofs.lemmas.Bool.Decides.{nat_tests}
use Rattle.wasm_types.specs.declared.instruction.Instr.{Instr}
use Rattle.wasm_types.specs.declared.modules.Body.{Body}
use Rattle.adapter_messages.specs.declared.parts.Instruction.{Instruction}
use Rattle.adapter.specs.Code.{offset_at, reference_of}
use Rattle.adapter.specs.Disassembly.{no_instruction, told, told_at, told_from, told_if}
use Rattle.adapter.specs.InstructionText.{instruction_text}

small : (n : ℕ) → n < 2 ^ 32 → nat_lt n (2 ^ 32) ≡ true
small n h = grind (arith, nat_tests)

large : (n : ℕ) → (n < 2 ^ 64 → ⊥) → nat_lt n (2 ^ 32) ≡ false
large n h = grind (arith, nat_tests)

z_fits : (n : ℕ) → n < 2 ^ 64 → FitsUnsigned w64 (pos n)
z_fits n h = omega (arith, ints)

below_no : (n : ℕ) → FitsUnsigned w64 (negsuc n) → ⊥
below_no n h = omega (arith, ints)

both : (address text other another : List ℕ) → address ≡ other → text ≡ another → ◌≡◌ {A = Instruction} (record { address = address; text = text }) (record { address = other; text = another })
both address text other another e h = cc

module _ (source : List ℕ) (b : Body) (function : ℕ) where
  pub told_there : (n k : ℕ) (i : Instr) (address text : List ℕ) → n ≡ k → k < 2 ^ 32 → slice_get b.code k ≡ Some i → address ≡ reference_of (offset_at source (record { function = function; instruction = k }))
      → text ≡ instruction_text b.labels i → ◌≡◌ {A = Instruction} (record { address = address; text = text }) (told_at source b function n)
  told_there n k i address text same few there is told =
      both address text _ _ is told
      ∙ sym (ap (told_if source b function k) there)
      ∙ sym (ap (λ (t : Bool). told_if source b function k (if t then slice_get b.code k else None)) (small k few))
      ∙ sym (ap (told_at source b function) same)

  pub none_told : (z : ℤ) → (FitsUnsigned w64 z → ⊥) → no_instruction ≡ told source b function z
  none_told (pos n) none = sym (ap (λ (t : Bool). told_if source b function n (if t then slice_get b.code n else None)) (large n (λ h. none (z_fits n h))))
  none_told (negsuc n) none = refl

  pub one_told : (z : ℤ) (n : ℕ) → FitsUnsigned w64 z → n ≡ unsigned_abs z → told_at source b function n ≡ told source b function z
  one_told (pos m) n fits is = ap (told_at source b function) is
  one_told (negsuc m) n fits is = absurd (below_no m fits)

  pub told_more : (at : ℕ) (offset : ℤ) (n : ℕ) (x : Instruction) → x ≡ told source b function (pos (at + n) +ℤ offset) → told_from source b function at offset n ++ x ∷ [] ≡ told_from source b function at offset (n + 1)
  told_more at offset n x is =
      let one : ℕ → Instruction = λ i. told source b function (pos (at + i) +ℤ offset) in
      let same : 0 + n ≡ n = omega arith in
      ap (λ y. told_from source b function at offset n ++ y ∷ []) is ∙ sym (map-range_with_len_more one 0 n n same)
