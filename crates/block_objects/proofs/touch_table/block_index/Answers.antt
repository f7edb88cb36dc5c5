-- A block has at least 64 bytes, so the index of a byte below 2 ^ 33 is below 2 ^ 27.
use Rattle.std.proofs.Common.{◌≤◌, arith}
use Rattle.block_objects.proofs.Division.{index_below}
use Rattle.block_objects.proofs.touch_table.block_index.Goals as goal

pub overflow_cast-result-2 : goal.overflow_cast-result-2
overflow_cast-result-2 c =
    let least : 6 ≤ c.power.result = omega arith in
    let below = index_below c.args.byte c.power.result least c.requires in
    omega (arith, below)

pub returns-clause-below : goal.returns-clause-below
returns-clause-below c =
    let least : 6 ≤ c.power.result = omega arith in
    index_below c.args.byte c.power.result least c.requires
