use Rattle.std.proofs.Common.{arith}
use Rattle.debug_views.proofs.Range.{low_block, none_hold, some_hold}
use Rattle.debug_views.proofs.blocks.blocks_of_range.Goals as goal

pub returns-then-len-eq0-clause-few : goal.returns-then-len-eq0-clause-few
returns-then-len-eq0-clause-few c =
    let few = low_block c.args.block c.args.from c.block_number-first.result c.power-from_6_to_12.ensures.least (omega arith) c.block_number-first.ensures in
    omega (arith, few)

pub returns-then-len-eq0-clause-holding : goal.returns-then-len-eq0-clause-holding
returns-then-len-eq0-clause-holding c = none_hold c.args.block c.args.from c.args.len c.block_number-first.result (omega arith)

pub overflow_add-result : goal.overflow_add-result
overflow_add-result c =
    let few = low_block c.args.block c.saturating_add.result c.block_number-last.result c.power-from_6_to_12.ensures.least (omega (arith, c.saturating_add.ensures)) c.block_number-last.ensures in
    omega (arith, few)

pub returns-clause-holding : goal.returns-clause-holding
returns-clause-holding c =
    some_hold c.args.block c.args.from c.args.len c.block_number-first.result c.block_number-last.result c.saturating_add.result
    c.block_number-first.ensures c.block_number-last.ensures
    (omega (arith, c.saturating_add.ensures)) (omega (arith, c.saturating_add.ensures)) (omega (arith, c.saturating_add.ensures))
    (λ a within small. omega (arith, c.saturating_add.ensures))

pub returns-clause-few : goal.returns-clause-few
returns-clause-few c =
    low_block c.args.block c.saturating_add.result c.block_number-last.result c.power-from_6_to_12.ensures.least (omega (arith, c.saturating_add.ensures)) c.block_number-last.ensures
