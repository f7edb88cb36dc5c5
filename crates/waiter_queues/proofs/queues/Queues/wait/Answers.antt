use Rattle.std.proofs.Common.{◌∙◌}
use Rattle.block_objects.specs.Queues.{after_wait}
use Rattle.waiter_queues.proofs.Making.{below_count, changed_made}
use Rattle.waiter_queues.proofs.queues.Queues.wait.Goals as goal

pub returns : goal.returns
returns c =
    changed_made c.self.inside.count c.args.block c.make_up_to.new.made.items c.args.self.now (after_wait c.args.thread c.args.address) _ _
    (c.make_up_to.ensures.same c.self.inside.count (below_count c.self.inside.count c.args.block c.self.inside.made.items c.args.self.now c.self.view_is c.self.invariant.few c.requires) c.self.invariant.few ∙ c.self.view_is) c.make_up_to.ensures.made c.index_mut.ensures.value c.wait.ensures
