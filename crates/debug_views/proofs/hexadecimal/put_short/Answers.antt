use Rattle.std.proofs.Common.{◌<◌, ◌^◌, refl, arith}
use Rattle.debug_views.proofs.HexBytes.{byte_put}
use Rattle.debug_views.proofs.hexadecimal.put_short.Goals as goal

pub returns-else-number-lt256-clause-text : goal.returns-else-number-lt256-clause-text
returns-else-number-lt256-clause-text c =
    let below = c.requires.number in
    let wide : c.args.number < 2 ^ 64 = omega (arith, below) in
    byte_put _ _ _ _ c.args.number _ c.if-number-lt256.false wide refl c.push_str.ensures.bytes c.put_first-else-number-lt256.ensures.text c.byte.ensures.digits
