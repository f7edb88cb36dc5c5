use Rattle.std.proofs.Common.{rules}
use Rattle.block_objects.specs.Queues.{after_resume}
use Rattle.waiter_queues.proofs.Making.{changed_made}
use Rattle.waiter_queues.proofs.queues.Queues.resume.Goals as goal

pub returns-then-block-len : goal.returns-then-block-len
returns-then-block-len c =
    changed_made c.self.inside.count c.args.block c.self.inside.made.items c.args.self.now (after_resume c.args.thread) _ _ c.self.view_is (search rules) c.index_mut.ensures.value c.resume.ensures
