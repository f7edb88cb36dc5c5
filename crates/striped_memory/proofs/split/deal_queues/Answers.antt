use Rattle.std.proofs.Common.{◌≡◌, ◌*◌, ◌/◌, ◌<◌, ◌≤◌, length, arith}
use Rattle.striped_memory.proofs.Ranges.{four_quarters}
use Rattle.striped_memory.proofs.Deals.{all_queues_dealt}
use Rattle.striped_memory.proofs.split.deal_queues.Goals as goal

pub returns-clause-queues : goal.returns-clause-queues
returns-clause-queues c =
    let m = c.args.blocks.now in
    let fours = four_quarters m.limits.block m.limits.capacity c.limits-limits.ensures.sound.greatest_block in
    let n = c.count-count.result / 4 in
    let size : length c.args.queues.now ≡ 4 * n = omega (arith, fours, c.count-count.ensures.count, c.requires.sized) in
    all_queues_dealt n c.args.row c.loop-j.dealt c.args.queues.now c.loop-j.invariant.long size (λ k low. c.loop-j.invariant.same k (omega (arith, low, c.loop-j-test.false)))
