use Rattle.std.proofs.Common.{arith, get_or}
use Rattle.wasm_types.proofs.Powers.{high_below, number_below}
use Rattle.wasm_types.proofs.leb128.+unsigned_front.Goals as goal

pub overflow_mul-result : goal.overflow_mul-result
overflow_mul-result t c = omega (arith, high_below c.in_ok-high.high c.args.bits (omega arith) c.requires c.in_ok-high.ensures.fits)

pub overflow_add-result : goal.overflow_add-result
overflow_add-result t c = omega (arith, high_below c.in_ok-high.high c.args.bits (omega arith) c.requires c.in_ok-high.ensures.fits)

pub returns-clause-fits : goal.returns-clause-fits
returns-clause-fits t c = omega (arith, number_below (get_or c.args.bytes.now 0 0) c.in_ok-high.high c.args.bits (omega (arith, c.type_inv.bytes 0)) (omega arith) (omega arith) c.in_ok-high.ensures.fits)
