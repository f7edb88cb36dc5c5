use Rattle.std.proofs.Common.{◌≡◌, ◌/◌, ◌<◌, ◌^◌, refl, arith}
use Rattle.debug_views.proofs.HexBytes.{byte_put}
use Rattle.debug_views.proofs.hexadecimal.put_long.Goals as goal

pub returns-clause-text : goal.returns-clause-text
returns-clause-text c =
    let n = c.args.number in
    let above = c.requires.number in
    let wide : n < 2 ^ 64 = c.ranges.number.fits in
    let first : n / 16777216 / 256 ≡ n / 4294967296 = omega arith in
    let second : n / 65536 / 256 ≡ n / 16777216 = omega arith in
    let third : n / 256 / 256 ≡ n / 65536 = omega arith in
    let one = byte_put _ _ _ _ (n / 16777216) (n / 4294967296) (omega (arith, above)) (omega (arith, wide)) first c.push_str.ensures.bytes c.put_medium.ensures.text c.byte.ensures.digits in
    let two = byte_put _ _ _ _ (n / 65536) (n / 16777216) (omega (arith, above)) (omega (arith, wide)) second c.push_str-2.ensures.bytes one c.byte-2.ensures.digits in
    let three = byte_put _ _ _ _ (n / 256) (n / 65536) (omega (arith, above)) (omega (arith, wide)) third c.push_str-3.ensures.bytes two c.byte-3.ensures.digits in
    byte_put _ _ _ _ n (n / 256) (omega (arith, above)) wide refl c.push_str-4.ensures.bytes three c.byte-4.ensures.digits
