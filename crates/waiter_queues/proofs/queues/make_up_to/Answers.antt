use Rattle.std.proofs.Common.{rules, ◌+◌, ◌<◌, ◌++◌, ◌∷◌, [], length, ap, ◌∙◌, arith}
use Rattle.waiter_queues.specs.Made.{all_queues}
use Rattle.waiter_queues.proofs.Making.{one_made}
use Rattle.waiter_queues.proofs.queues.make_up_to.Goals as goal

pub loop-made-preserved : goal.loop-made-preserved
loop-made-preserved c =
    let inv = c.loop-made.invariant in
    let below : length c.loop-made.made.items < c.args.block + 1 = search rules in
    record {
      room = search rules;
      few = λ count l old. search rules;
      same = λ count l old.
          ap (all_queues count) (c.in-Ok.ensures.items ∙ ap (λ q. c.loop-made.made.items ++ q ∷ []) c.new.ensures)
          ∙ one_made count c.loop-made.made.items (omega (arith, below, l)) ∙ inv.same count l old;
    }
