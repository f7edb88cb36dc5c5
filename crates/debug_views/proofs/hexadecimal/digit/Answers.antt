use Rattle.std.proofs.Common.{◌≡◌, ℕ, ◌+◌, ◌-◌, ◌*◌, take, drop, ap, ◌∙◌, arith}
use Rattle.debug_views.specs.declared.hexadecimal.TheConstants.{BYTES}
use Rattle.debug_views.proofs.HexBytes.{IsAscii-bytes, digit_at}
use Rattle.debug_views.proofs.hexadecimal.digit.Goals as goal

pub range-requires-clause-start_boundary : goal.range-requires-clause-start_boundary
range-requires-clause-start_boundary c =
    λ _. let few = c.requires in (omega (arith, few), λ a b. absurd (omega (arith, IsAscii-bytes (c.args.number * 2 + 1))))

pub range-requires-clause-end_boundary : goal.range-requires-clause-end_boundary
range-requires-clause-end_boundary c =
    let few = c.requires in (omega (arith, few), λ a b. absurd (omega (arith, IsAscii-bytes (c.args.number * 2 + 1 + 1))))

pub returns-clause-digit : goal.returns-clause-digit
returns-clause-digit c =
    let at = c.args.number * 2 + 1 in
    let read : c.range.result.now ≡ take (at + 1 - at) (drop at BYTES.now) = c.range.ensures.value in
    let width : at + 1 - at ≡ 1 = omega arith in
    read ∙ ap (λ (n : ℕ). take n (drop at BYTES.now)) width ∙ digit_at c.args.number c.requires
