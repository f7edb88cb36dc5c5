use Rattle.std.proofs.Common.{◌≡◌, ◌/◌, ◌<◌, ◌≤◌, ◌^◌, refl, arith}
use Rattle.debug_views.proofs.HexBytes.{byte_put}
use Rattle.debug_views.proofs.hexadecimal.put_medium.Goals as goal

pub returns-else-number-lt65536-clause-text : goal.returns-else-number-lt65536-clause-text
returns-else-number-lt65536-clause-text c =
    let n = c.args.number in
    let below = c.requires.number in
    let above = c.if-number-lt65536.false in
    let large : 256 ≤ n / 256 = omega (arith, above) in
    let few : n / 256 < 2 ^ 64 = omega (arith, below) in
    let first : n / 256 / 256 ≡ n / 65536 = omega arith in
    let before = byte_put _ _ _ _ (n / 256) (n / 65536) large few first c.push_str.ensures.bytes c.put_short-else-number-lt65536.ensures.text c.byte.ensures.digits in
    byte_put _ _ _ _ n (n / 256) (omega (arith, above)) (omega (arith, below)) refl c.push_str-else-number-lt65536.ensures.bytes before c.byte-else-number-lt65536.ensures.digits
