use Rattle.std.proofs.Common.{arith}
use Rattle.debug_views.proofs.Range.{low_block}
use Rattle.debugger.proofs.questions.object_at.Goals as goal

pub overflow_mul-result : goal.overflow_mul-result
overflow_mul-result c =
    let few = low_block c.args.block c.args.address c.block_number.result c.power-from_6_to_12.ensures.least (omega arith) c.block_number.ensures in
    omega (arith, few)

pub overflow_add-result : goal.overflow_add-result
overflow_add-result c =
    let few = low_block c.args.block c.args.address c.block_number.result c.power-from_6_to_12.ensures.least (omega arith) c.block_number.ensures in
    omega (arith, few)
