use Rattle.std.proofs.Common.{◌≡◌, ◌/◌, ◌<◌, ◌≤◌, ◌^◌, refl, arith}
use Rattle.debug_views.proofs.Pairs.{pair_put}
use Rattle.debug_views.proofs.numbers.put_more.Goals as goal

pub returns-then-number-lt100000000-clause-text : goal.returns-then-number-lt100000000-clause-text
returns-then-number-lt100000000-clause-text c =
    let n = c.args.number in
    let below = c.if-number-lt100000000.true in
    let above = c.if-number-lt10000.false in
    let hundreds : 100 ≤ n / 100 = omega (arith, above) in
    let few : n / 100 < 2 ^ 64 = omega (arith, below) in
    let first : n / 100 / 100 ≡ n / 10000 = omega arith in
    let before = pair_put _ _ _ _ (n / 100) (n / 10000) hundreds few first c.push_str.ensures.bytes c.put_short-then-number-lt100000000.ensures.text c.pair.ensures.digits in
    pair_put _ _ _ _ n (n / 100) (omega (arith, above)) (omega (arith, below)) refl c.push_str-then-number-lt100000000.ensures.bytes before c.pair-then-number-lt100000000.ensures.digits
