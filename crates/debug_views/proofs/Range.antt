-- Which blocks hold a byte of a range.
use Rattle.std.proofs.Common.{◌≡◌, ℕ, ◌+◌, ◌*◌, ◌/◌, ◌^◌, ◌<◌, ◌≤◌, inl, inr, sym, ◌∙◌, arith}
use Rattle.std.proofs.Math.Nat.{div-lt_iff_lt-mul, mul-div_cancel}
use Rattle.std.proofs.Math.Pow.{shr_mono}
use Rattle.std.proofs.lemmas.Bool.{cases_lt}
use Rattle.std.proofs.lemmas.Nat.{pow_pos}
use Rattle.block_objects.specs.Objects.{block_of}
use Rattle.block_objects.proofs.Division.{index_below}
use Rattle.debug_views.specs.Blocks.{HoldsByte, AreHolding}

-- an address of 32 bits is of a block below 2 ^ 27
pub low_block : (power address block : ℕ) → 6 ≤ power → address < 2 ^ 32 → block ≡ block_of power address → block + 1 ≤ 2 ^ 27
low_block power address block low small e =
    let below : address / 2 ^ power < 2 ^ 27 = index_below address power low (omega arith) in
    omega (arith, below, e)

-- a range of no bytes
pub none_hold : (power from len first : ℕ) → len ≡ 0 → AreHolding power from len (record { first = first; past = first })
none_hold power from len first none b = (
  (λ h. absurd (let l = h.0 in let r = h.1 in omega (arith, l, r))),
  (λ h. absurd (let l = h.from_start in let r = h.before_end in omega (arith, l, r, none))),
)

-- the first byte of a block at or before that of an address is at or before the address
start_below : (power address b : ℕ) → b ≤ address / 2 ^ power → b * 2 ^ power ≤ address
start_below power address b le =
    elim (cases_lt address (b * 2 ^ power)) [
      | inl before ↦ absurd (let q : address / 2 ^ power < b = (div-lt_iff_lt-mul {k = 2 ^ power} {x = address} {y = b} (pow_pos power)).1 before in omega (arith, q, le))
      | inr ge ↦ ge
    ]

module _ (power from len first last final : ℕ) (is_first : first ≡ block_of power from) (is_last : last ≡ block_of power final) (low : from ≤ final) (high : final < from + len) (small : final < 2 ^ 32) where
  held : (b : ℕ) → first ≤ b → b < last + 1 → HoldsByte power from len b
  held b ge lt =
      elim (cases_lt first b) [
        | inl more ↦
            let q : from / 2 ^ power < b = omega (arith, is_first, more) in
            let down : from < b * 2 ^ power = (div-lt_iff_lt-mul {k = 2 ^ power} {x = from} {y = b} (pow_pos power)).0 q in
            let le : b ≤ final / 2 ^ power = omega (arith, is_last, lt) in
            let up : b * 2 ^ power ≤ final = start_below power final b le in
            record {
              address = b * 2 ^ power;
              of_memory = omega (arith, up, small);
              from_start = omega (arith, down);
              before_end = omega (arith, up, high);
              in_block = mul-div_cancel b (pow_pos power);
            }
        | inr le ↦
            let same : first ≡ b = omega (arith, ge, le) in
            record {
              address = from;
              of_memory = omega (arith, low, small);
              from_start = omega arith;
              before_end = omega (arith, low, high);
              in_block = sym is_first ∙ same;
            }
      ]

  -- the blocks from that of the first address to that of the last
  pub some_hold : ((a : ℕ) → a < from + len → a < 2 ^ 32 → a ≤ final) → AreHolding power from len (record { first = first; past = last + 1 })
  some_hold most b = (
    (λ h. held b h.0 h.1),
    (λ h.
        let down : from / 2 ^ power ≤ h.address / 2 ^ power = shr_mono power h.from_start in
        let within : h.address ≤ final = most h.address h.before_end h.of_memory in
        let up : h.address / 2 ^ power ≤ final / 2 ^ power = shr_mono power within in
        let is = h.in_block in
        (omega (arith, down, is, is_first), omega (arith, up, is, is_last))),
  )
