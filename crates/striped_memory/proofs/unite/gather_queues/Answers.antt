use Rattle.std.proofs.Common.{◌≡◌, ◌*◌, ◌≤◌, arith}
use Rattle.striped_memory.proofs.Deals.{gathered_queues}
use Rattle.striped_memory.proofs.unite.gather_queues.Goals as goal

pub returns-clause-queues : goal.returns-clause-queues
returns-clause-queues c =
    let enough : 4 * c.args.quarter ≤ c.loop-index.index = omega (arith, c.loop-index-test.false) in
    gathered_queues c.args.quarter c.loop-index.index c.loop-index.queues c.args.a.now c.args.b.now c.args.c.now c.args.d.now c.loop-index.invariant.long enough c.requires.one c.requires.two c.requires.three c.requires.four c.loop-index.invariant.same
