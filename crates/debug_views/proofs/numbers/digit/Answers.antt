use Rattle.std.proofs.Common.{◌≡◌, ℕ, ◌+◌, ◌-◌, ◌*◌, take, drop, ap, ◌∙◌, arith}
use Rattle.debug_views.specs.declared.numbers.TheConstants.{PAIRS}
use Rattle.debug_views.proofs.Pairs.{digit_at}
use Rattle.debug_views.proofs.numbers.digit.Goals as goal

pub returns-clause-digit : goal.returns-clause-digit
returns-clause-digit c =
    let at = c.args.number * 2 + 1 in
    let read : c.range.result.now ≡ take (at + 1 - at) (drop at PAIRS.now) = c.range.ensures.value in
    let width : at + 1 - at ≡ 1 = omega arith in
    read ∙ ap (λ (n : ℕ). take n (drop at PAIRS.now)) width ∙ digit_at c.args.number c.requires
