-- Blocks have at least 64 bytes, and there are at most 2 ^ 32 bytes.
use Rattle.std.proofs.Common.{◌*◌, ◌^◌, ◌≤◌, arith}
use Rattle.block_objects.proofs.Division.{few_blocks}
use Rattle.block_objects.proofs.blocks.Blocks.count.Goals as goal

pub overflow_cast-result-2 : goal.overflow_cast-result-2
overflow_cast-result-2 c =
    let least : 6 ≤ c.power.result = omega arith in
    let most : c.from-bytes.result * 65536 ≤ 2 ^ 32 = omega (arith, c.self.invariant.in_limit) in
    omega (arith, few_blocks (c.from-bytes.result * 65536) c.power.result least most)

pub returns-clause-few : goal.returns-clause-few
returns-clause-few c =
    let least : 6 ≤ c.power.result = omega arith in
    let most : c.from-bytes.result * 65536 ≤ 2 ^ 32 = omega (arith, c.self.invariant.in_limit) in
    few_blocks (c.from-bytes.result * 65536) c.power.result least most
