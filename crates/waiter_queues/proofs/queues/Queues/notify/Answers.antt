use Rattle.std.proofs.Common.{rules}
use Rattle.block_objects.specs.Queues.{after_notify}
use Rattle.waiter_queues.proofs.Making.{changed_made}
use Rattle.waiter_queues.proofs.queues.Queues.notify.Goals as goal

pub returns-then-block-len-clause-queues : goal.returns-then-block-len-clause-queues
returns-then-block-len-clause-queues c =
    changed_made c.self.inside.count c.args.block c.self.inside.made.items c.args.self.now (after_notify c.args.address c.args.count) _ _ c.self.view_is (search rules) c.index_mut.ensures.value c.notify.ensures.queue
