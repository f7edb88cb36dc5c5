-- Bytes that are stored in one of the blocks of a part.
use Rattle.std.proofs.Common.{◌≡◌, ◌≢◌, ℕ, ◌+◌, ◌*◌, ◌^◌, ◌<◌, ◌≤◌, inl, inr, List, length, take, refl, sym, ap, ◌∙◌, arith}
use Rattle.std.specs.Int.{w64, byte_len, to_le_bytes}
use Rattle.std.proofs.Math.Nat.{mul-le-mul_right}
use Rattle.std.proofs.lemmas.Bool.{cases_lt}
use Rattle.wasm_types.specs.declared.value.ValType.TheVariants.{I32, I64}
use Rattle.wasm_types.specs.declared.instruction.Narrow.TheVariants.{I32Of8, I32Of16, I64Of8, I64Of16, I64Of32}
use Rattle.wasm_types.specs.declared.instruction.Access.{Access}
use Rattle.wasm_types.specs.declared.instruction.Access.TheVariants as access
use Rattle.block_objects.specs.Objects.{block_bytes}
use Rattle.wasm_types.specs.Accesses.{access_width}
use Rattle.block_objects.specs.Access.{overwrite}
use Rattle.block_objects.proofs.Windows.{window_overwrite, window_before, window_behind}

-- the low bytes of a number, as many as an access has
pub low_bytes : (a : Access) (n : ℕ) → take (byte_len (access_width a)) (to_le_bytes w64 n) ≡ to_le_bytes (access_width a) n
low_bytes (access.Whole I32) n = refl
low_bytes (access.Whole I64) n = refl
low_bytes (access.Narrow I32Of8) n = refl
low_bytes (access.Narrow I32Of16) n = refl
low_bytes (access.Narrow I64Of8) n = refl
low_bytes (access.Narrow I64Of16) n = refl
low_bytes (access.Narrow I64Of32) n = refl

module _ (p k at n : ℕ) (part xs : List ℕ) (fits : at + length part ≤ 2 ^ p) (all : length xs ≡ n * 2 ^ p) (low : k < n) where
  ends : k * 2 ^ p + 2 ^ p ≤ length xs
  ends =
      let up : (k + 1) * 2 ^ p ≤ n * 2 ^ p = mul-le-mul_right (2 ^ p) (omega (arith, low)) in
      let product : (k + 1) * 2 ^ p ≡ k * 2 ^ p + 2 ^ p = omega arith in
      omega (arith, up, product, all)

  pub within : k * 2 ^ p + at + length part ≤ length xs
  within = omega (arith, ends, fits)

  pub stored_there : block_bytes p (overwrite (k * 2 ^ p + at) part xs) k ≡ overwrite at part (block_bytes p xs k)
  stored_there = sym (window_overwrite (k * 2 ^ p) (2 ^ p) at part xs fits ends)

  before : (j : ℕ) → j < k → block_bytes p (overwrite (k * 2 ^ p + at) part xs) j ≡ block_bytes p xs j
  before j less =
      let up : (j + 1) * 2 ^ p ≤ k * 2 ^ p = mul-le-mul_right (2 ^ p) (omega (arith, less)) in
      let product : (j + 1) * 2 ^ p ≡ j * 2 ^ p + 2 ^ p = omega arith in
      window_before (j * 2 ^ p) (2 ^ p) (k * 2 ^ p + at) part xs (omega (arith, up, product)) within

  behind : (j : ℕ) → k < j → block_bytes p (overwrite (k * 2 ^ p + at) part xs) j ≡ block_bytes p xs j
  behind j more =
      let up : (k + 1) * 2 ^ p ≤ j * 2 ^ p = mul-le-mul_right (2 ^ p) (omega (arith, more)) in
      let product : (k + 1) * 2 ^ p ≡ k * 2 ^ p + 2 ^ p = omega arith in
      window_behind (j * 2 ^ p) (2 ^ p) (k * 2 ^ p + at) part xs (omega (arith, up, product, fits)) within

  pub stored_others : (j : ℕ) → j ≢ k → block_bytes p (overwrite (k * 2 ^ p + at) part xs) j ≡ block_bytes p xs j
  stored_others j ne = elim (cases_lt j k) [ inl less ↦ before j less | inr not_less ↦ behind j (omega (arith, not_less, ne)) ]
