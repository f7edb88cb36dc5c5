-- Where an access lies in the blocks that it touches.
use Rattle.std.proofs.Common.{◌≡◌, ℕ, ◌+◌, ◌-◌, ◌*◌, ◌%◌, ◌^◌, ◌<◌, ◌≤◌, ◌≢◌, Bool, true, false, cond, ◌==◌, List, [], ◌++◌, take, drop, sym, ap, ◌∙◌, arith}
use Rattle.std.proofs.Math.Pow.{pow_mono, shr_mono}
use Rattle.std.proofs.Math.Nat.{mod-lt, mul-le-mul_right, lt_of_mul-lt-mul_right, div-mul-le_self}
use Rattle.std.proofs.Math.Seq.{take-add}
use Rattle.std.proofs.lemmas.List.{append-nil, drop-drop}
use Rattle.std.proofs.lemmas.Nat.{shr_split}
use Rattle.std.proofs.lemmas.Bool.Decides.{Decides-eqb}
use Rattle.block_objects.specs.Objects.{block_of, blocks_in, block_bytes}
use Rattle.block_objects.proofs.Values.{no_differ}

-- how many bytes the touched blocks have
abbrev pub span : ℕ → Bool → ℕ
span p same = cond same (2 ^ p) (2 ^ p + 2 ^ p)

-- the bytes of one block, or of two
abbrev pub joined : ℕ → List ℕ → ℕ → ℕ → Bool → List ℕ
joined p bytes first last same = cond same (block_bytes p bytes first ++ []) (block_bytes p bytes first ++ (block_bytes p bytes last ++ []))

module _ (p address len : ℕ) (low : 6 ≤ p) (some : 0 < len) (small : len ≤ 8) where
  size_low : 64 ≤ 2 ^ p
  size_low = let le : 6 ≤ p = low in pow_mono le

  pub place_low : address % 2 ^ p < 2 ^ p
  place_low = let pos : 0 < 2 ^ p = omega (arith, size_low) in mod-lt address pos

  pub place_is : block_of p address * 2 ^ p + address % 2 ^ p ≡ address
  place_is = shr_split address p

  pub end_is : block_of p (address + len - 1) * 2 ^ p + (address + len - 1) % 2 ^ p ≡ address + len - 1
  end_is = shr_split (address + len - 1) p

  pub end_low : (address + len - 1) % 2 ^ p < 2 ^ p
  end_low = let pos : 0 < 2 ^ p = omega (arith, size_low) in mod-lt (address + len - 1) pos

  pub not_before : block_of p address ≤ block_of p (address + len - 1)
  not_before = let up : address ≤ address + len - 1 = omega arith in shr_mono p up

  not_far : block_of p (address + len - 1) < block_of p address + 2
  not_far =
      let product : (block_of p address + 2) * 2 ^ p ≡ block_of p address * 2 ^ p + 2 ^ p + 2 ^ p = omega arith in
      lt_of_mul-lt-mul_right (2 ^ p) (omega (arith, product, end_is, place_is, place_low, size_low))

  pub next_block : block_of p address ≢ block_of p (address + len - 1) → block_of p (address + len - 1) ≡ block_of p address + 1
  next_block ne = omega (arith, not_before, not_far)

  pub ends_in : (same : Bool) → (block_of p address == block_of p (address + len - 1)) ≡ same → address % 2 ^ p + len ≤ span p same
  ends_in true is =
      let e : block_of p address ≡ block_of p (address + len - 1) = (Decides-eqb _ _).0 is in
      let products : block_of p address * 2 ^ p ≡ block_of p (address + len - 1) * 2 ^ p = ap (λ b. b * 2 ^ p) e in
      omega (arith, products, end_is, end_low, place_is)
  ends_in false is = omega (arith, place_low, size_low)

  -- the touched blocks lie within the capacity
  pub within_capacity : (c : ℕ) (same : Bool) → (block_of p address == block_of p (address + len - 1)) ≡ same → block_of p (address + len - 1) < blocks_in p c → block_of p address * 2 ^ p + span p same ≤ c * 65536
  within_capacity c same is below =
      let up : (block_of p (address + len - 1) + 1) * 2 ^ p ≤ blocks_in p c * 2 ^ p = mul-le-mul_right (2 ^ p) (omega arith) in
      let all : blocks_in p c * 2 ^ p ≤ c * 65536 = div-mul-le_self (c * 65536) (2 ^ p) in
      by_case same is (omega (arith, up, all)) where
        by_case : (same : Bool) → (block_of p address == block_of p (address + len - 1)) ≡ same → block_of p (address + len - 1) * 2 ^ p + 2 ^ p ≤ c * 65536 → block_of p address * 2 ^ p + span p same ≤ c * 65536
        by_case true is h = let e : block_of p address ≡ block_of p (address + len - 1) = (Decides-eqb _ _).0 is in let products : block_of p address * 2 ^ p ≡ block_of p (address + len - 1) * 2 ^ p = ap (λ b. b * 2 ^ p) e in omega (arith, products, h)
        by_case false is h = let next = next_block (no_differ _ _ is) in let products : block_of p (address + len - 1) * 2 ^ p ≡ (block_of p address + 1) * 2 ^ p = ap (λ b. b * 2 ^ p) next in omega (arith, products, h)

  -- the touched blocks, one after another, are one part of the bytes
  pub joined_is : (bytes : List ℕ) (same : Bool) → (block_of p address == block_of p (address + len - 1)) ≡ same
      → joined p bytes (block_of p address) (block_of p (address + len - 1)) same ≡ take (span p same) (drop (block_of p address * 2 ^ p) bytes)
  joined_is bytes true is = append-nil _
  joined_is bytes false is =
      let next = next_block (no_differ _ _ is) in
      let from : block_of p (address + len - 1) * 2 ^ p ≡ block_of p address * 2 ^ p + 2 ^ p = ap (λ b. b * 2 ^ p) next ∙ omega arith in
      let second : block_bytes p bytes (block_of p (address + len - 1)) ≡ take (2 ^ p) (drop (2 ^ p) (drop (block_of p address * 2 ^ p) bytes)) =
      ap (λ k. take (2 ^ p) (drop k bytes)) from ∙ ap (take (2 ^ p)) (sym (drop-drop (2 ^ p) (block_of p address * 2 ^ p) bytes)) in
      ap (λ l. block_bytes p bytes (block_of p address) ++ l) (append-nil _ ∙ second) ∙ sym (take-add (2 ^ p) (2 ^ p) (drop (block_of p address * 2 ^ p) bytes))
