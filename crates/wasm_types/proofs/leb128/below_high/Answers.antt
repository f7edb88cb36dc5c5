use Rattle.std.proofs.Common.{arith}
use Rattle.std.proofs.lemmas.Int.{ints}
use Rattle.wasm_types.proofs.Powers.{half_less, half_below}
use Rattle.wasm_types.proofs.leb128.below_high.Goals as goal

pub overflow_mul-result : goal.overflow_mul-result
overflow_mul-result c =
    let e = half_less c.args.bits c.requires.bits in
    let p = half_below c.args.bits c.requires.most in
    omega (arith, ints, c.requires.fits.low, c.requires.fits.high)

pub returns-clause-value : goal.returns-clause-value
returns-clause-value c =
    let e = half_less c.args.bits c.requires.bits in
    let p = half_below c.args.bits c.requires.most in
    omega (arith, ints, c.requires.fits.low, c.requires.fits.high)

pub returns-clause-fits : goal.returns-clause-fits
returns-clause-fits c =
    let e = half_less c.args.bits c.requires.bits in
    let p = half_below c.args.bits c.requires.most in
    record { low = omega (arith, ints, c.requires.fits.low, c.requires.fits.high); high = omega (arith, ints, c.requires.fits.low, c.requires.fits.high) }
