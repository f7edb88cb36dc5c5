use Rattle.std.proofs.Common.{◌≡◌, ℕ, ◌+◌, ◌-◌, ◌*◌, take, drop, ap, ◌∙◌, arith}
use Rattle.debug_views.specs.declared.hexadecimal.TheConstants.{BYTES}
use Rattle.debug_views.proofs.HexBytes.{IsAscii-bytes, byte_at}
use Rattle.debug_views.proofs.hexadecimal.byte.Goals as goal

pub range-requires-clause-start_boundary : goal.range-requires-clause-start_boundary
range-requires-clause-start_boundary c =
    λ _. let few = c.requires in (omega (arith, few), λ a b. absurd (omega (arith, IsAscii-bytes (c.args.number * 2))))

pub range-requires-clause-end_boundary : goal.range-requires-clause-end_boundary
range-requires-clause-end_boundary c =
    let few = c.requires in (omega (arith, few), λ a b. absurd (omega (arith, IsAscii-bytes (c.args.number * 2 + 2))))

pub returns-clause-digits : goal.returns-clause-digits
returns-clause-digits c =
    let at = c.args.number * 2 in
    let read : c.range.result.now ≡ take (at + 2 - at) (drop at BYTES.now) = c.range.ensures.value in
    let width : at + 2 - at ≡ 2 = omega arith in
    read ∙ ap (λ (n : ℕ). take n (drop at BYTES.now)) width ∙ byte_at c.args.number c.requires
