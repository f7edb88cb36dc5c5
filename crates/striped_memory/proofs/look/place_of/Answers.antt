use Rattle.std.proofs.Common.{◌≡◌, ◌*◌, ◌≤◌, ◌^◌, arith}
use Rattle.std.proofs.Math.Nat.{mul-le-mul_left}
use Rattle.std.proofs.Math.Pow.{pow_mono}
use Rattle.striped_memory.proofs.look.place_of.Goals as goal

pub returns-clause-low : goal.returns-clause-low
returns-clause-low c =
    let power : 2 ^ c.args.block ≤ 2 ^ 12 = pow_mono c.size.ensures.greatest in
    let size : c.size.result ≤ 4096 = omega (arith, power, c.size.ensures.size) in
    let product : c.args.before * c.size.result ≤ c.args.before * 4096 = mul-le-mul_left (c.args.before) size in
    omega (arith, product, c.ranges.before.fits)
