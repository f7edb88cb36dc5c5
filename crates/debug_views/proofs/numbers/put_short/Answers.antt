use Rattle.std.proofs.Common.{◌<◌, ◌^◌, refl, arith}
use Rattle.debug_views.proofs.Pairs.{pair_put}
use Rattle.debug_views.proofs.numbers.put_short.Goals as goal

pub returns-else-number-lt100-clause-text : goal.returns-else-number-lt100-clause-text
returns-else-number-lt100-clause-text c =
    let below = c.requires.number in
    let wide : c.args.number < 2 ^ 64 = omega (arith, below) in
    pair_put _ _ _ _ c.args.number _ c.if-number-lt100.false wide refl c.push_str.ensures.bytes c.put_first-else-number-lt100.ensures.text c.pair.ensures.digits
