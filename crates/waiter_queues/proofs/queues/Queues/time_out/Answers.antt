use Rattle.std.proofs.Common.{rules}
use Rattle.block_objects.specs.Queues.{after_time_out}
use Rattle.waiter_queues.proofs.Making.{changed_made}
use Rattle.waiter_queues.proofs.queues.Queues.time_out.Goals as goal

pub returns-then-block-len : goal.returns-then-block-len
returns-then-block-len c =
    changed_made c.self.inside.count c.args.block c.self.inside.made.items c.args.self.now (after_time_out c.args.thread c.args.address) _ _ c.self.view_is (search rules) c.index_mut.ensures.value c.time_out.ensures
