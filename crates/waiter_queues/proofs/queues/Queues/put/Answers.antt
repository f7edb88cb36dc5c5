use Rattle.std.proofs.Common.{rules, ap, subst, sym, ◌≡◌, ◌≤◌, ◌∙◌, length, slice_set}
use Rattle.block_objects.specs.Objects.{QueueAt}
use Rattle.std.proofs.Common.{List}
use Rattle.waiter_queues.proofs.Making.{below_count, put_nobody, set_made}
use Rattle.waiter_queues.proofs.queues.Queues.put.Goals as goal

pub returns-then-is_empty : goal.returns-then-is_empty
returns-then-is_empty c =
    let Kept : List QueueAt → Type 0 = λ all. all ≡ slice_set all c.args.block c.args.queue in
    let past : length c.self.inside.made.items ≤ c.args.block = search rules in
    subst Kept c.self.view_is (put_nobody c.self.inside.count c.args.block c.self.inside.made.items c.args.queue past (c.is_empty.ensures c.if-is_empty.true))

pub returns : goal.returns
returns c =
    set_made c.self.inside.count c.args.block c.make_up_to.new.made.items c.args.queue c.make_up_to.ensures.made
    ∙ ap (λ all. slice_set all c.args.block c.args.queue)
    (c.make_up_to.ensures.same c.self.inside.count (below_count c.self.inside.count c.args.block c.self.inside.made.items c.args.self.now c.self.view_is c.self.invariant.few c.requires) c.self.invariant.few ∙ c.self.view_is)
